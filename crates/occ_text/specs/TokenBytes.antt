-- The bytes of a line of tokens, one after another (our own choice).
use Rattle.std.specs.Prelude.{ℕ, ◌==◌, ◌&&◌, ◌||◌, not, Bool, List, [], ◌∷◌}
use Rattle.std.specs.Char.{is_ascii_graphic}

-- a byte may stand behind another: a byte of a token behind any, and a space behind one of a token
abbrev pub may_follow : ℕ → ℕ → Bool
may_follow previous byte = is_ascii_graphic byte || ((byte == 32) && not (previous == 32))

-- bytes go on behind another as those of a line of tokens do: each may stand behind the one before it, and the last is no space
abbrev pub goes_on : ℕ → List ℕ → Bool
goes_on previous [] = not (previous == 32)
goes_on previous (byte ∷ bytes) = may_follow previous byte && goes_on byte bytes
