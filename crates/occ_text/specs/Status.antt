-- The exit status of each outcome (our own choice).
use Rattle.std.specs.Prelude.{ℕ, Bool, true, false, Result, Ok, Err}
use Rattle.occ_text.specs.declared.trouble.Trouble.{Trouble}
use Rattle.occ_text.specs.declared.trouble.Trouble.TheVariants.{Read, Write, Memory, Malformed}

-- 0 for a yes, 3 for a no, 1 for a device or memory, 2 for a malformed line
abbrev pub status : Result Bool Trouble → ℕ
status (Ok true) = 0
status (Ok false) = 3
status (Err Read) = 1
status (Err Write) = 1
status (Err Memory) = 1
status (Err (Malformed line)) = 2
