use Rattle.std.proofs.Common.{◌≡◌, ◌++◌, List, length, option_map}
use Rattle.occ_types.specs.declared.kind.Kind.{Kind}
use Rattle.occ_text.specs.HeaderReading.{kinds_of}
use Rattle.occ_text.proofs.kinds.columns.Given as goal

-- the kinds that were read and those of the words to come are the whole
abbrev pub invariant-loop-word : goal.invariant-loop-word
invariant-loop-word g l = option_map (λ (more : List Kind). l.kinds.items ++ more) (kinds_of l.words) ≡ kinds_of l.fn.words

abbrev pub decreases-loop-word : goal.decreases-loop-word
decreases-loop-word g l = length l.words
