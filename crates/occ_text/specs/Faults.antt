-- What can go wrong, said by a wider type.
use Rattle.std.specs.Prelude.{◌^◌, ◌-◌, ℕ, Result, Ok, Err}
use Rattle.occ_text.specs.declared.tokens.Unread.{Unread}
use Rattle.occ_text.specs.declared.tokens.Unread.TheVariants as unread
use Rattle.occ_text.specs.declared.faults.LineFault.{LineFault}
use Rattle.occ_text.specs.declared.faults.LineFault.TheVariants as lines
use Rattle.occ_text.specs.declared.faults.ReadFault.{ReadFault}
use Rattle.occ_text.specs.declared.faults.ReadFault.TheVariants as reads
use Rattle.occ_text.specs.declared.faults.WriteFault.{WriteFault}
use Rattle.occ_text.specs.declared.faults.WriteFault.TheVariants as writes
use Rattle.occ_text.specs.declared.trouble.Trouble.{Trouble}
use Rattle.occ_text.specs.declared.trouble.Trouble.TheVariants as troubles

abbrev pub read_fault : LineFault → ReadFault
read_fault lines.Read = reads.Read
read_fault lines.TooManyLines = reads.TooManyLines
read_fault (lines.Malformed number) = reads.Malformed number

-- where no further line has a number, the last one that has is told
abbrev pub read_trouble : ReadFault → Trouble
read_trouble reads.Read = troubles.Read
read_trouble reads.TooManyLines = troubles.Malformed (2 ^ 64 - 1)
read_trouble (reads.Malformed number) = troubles.Malformed number
read_trouble reads.Memory = troubles.Memory

abbrev pub write_trouble : WriteFault → Trouble
write_trouble writes.Write = troubles.Write
write_trouble writes.Memory = troubles.Memory

-- the outcome of a call that takes no memory, as that of one that may take some
abbrev pub widened : {X : Type 0} → Result X LineFault → Result X ReadFault
widened (Ok x) = Ok x
widened (Err fault) = Err (read_fault fault)

-- what a line that wasn't read ends a call with
abbrev pub fault_at : Unread → ℕ → ReadFault
fault_at unread.Malformed line = reads.Malformed line
fault_at unread.Memory line = reads.Memory

-- what was read of the line of a number, or what it ends a call with
abbrev pub told : {X : Type 0} → Result X Unread → ℕ → Result X ReadFault
told (Ok x) number = Ok x
told (Err why) number = Err (fault_at why number)
