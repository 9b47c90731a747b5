-- What a call replies, as a reply of the model.
use Rattle.std.specs.Prelude.{Result, Ok, Err}
use Rattle.occ_types.specs.declared.fault.Fault.{Fault}
use Rattle.occ_types.specs.declared.fault.Refused as refused
use Rattle.occ_model.specs.Event.{Reply, Refused}

-- a call replies by what it answers, or that it was refused
abbrev pub replied : {X : Type 0} → (X → Reply) → Result X Fault → Reply
replied answer (Ok x) = answer x
replied answer (Err fault) = Refused fault

-- and so where it hands back what is refused
abbrev pub replied_back : {X Y : Type 0} → (X → Reply) → Result X (refused.Refused Y) → Reply
replied_back answer (Ok x) = answer x
replied_back answer (Err refusal) = Refused refusal.fault
