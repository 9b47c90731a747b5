use Rattle.occ_model.specs.Event.{Answered, Read}
use Rattle.occ_model.specs.Replies.{replied}
use Rattle.occ_model.specs.State.{Rows}
use Rattle.occ_sets.specs.PlainSets.{rows_of}
use Rattle.occ_types.specs.PlainData.{end_of}
use Rattle.occ_types.specs.Question.{Span}
use Rattle.std.specs.Option.{option_copied}
use Rattle.occ_store.proofs.shared.Shared.scan_apart.Given as goal

-- the event that the story is told of
abbrev pub ghosts-add : goal.ghosts-add
ghosts-add g a = let told = a.about.now in record { entry = (Read told.0 told.1 told.2 (Span told.3 (end_of (option_copied told.4)) (end_of (option_copied told.5))), replied (λ rows. Answered (Rows (rows_of rows.items))) told.6.now) }
