use Rattle.std.proofs.Common.{◌≡◌, ◌++◌, length}
use Rattle.occ_pages.specs.Entries.{Ascends, within}
use Rattle.occ_pages.specs.Pages.{flatten, zipped}
use Rattle.occ_pages.proofs.backward.BackwardIterator.next.Given as goal

-- the same rows are left
abbrev pub invariant-loop-page : goal.invariant-loop-page
invariant-loop-page g l = record {
  left : within l.self-inside.lower l.self-inside.upper (flatten l.self-inside.pages.now) ++ zipped l.self-inside.keys.now l.self-inside.rows.now ≡ l.fn.self;
  same : length l.self-inside.keys.now ≡ length l.self-inside.rows.now;
  ascends : Ascends (flatten l.self-inside.pages.now);
}

-- the pages that are left
abbrev pub decreases-loop-page : goal.decreases-loop-page
decreases-loop-page g l = length l.self-inside.pages.now
