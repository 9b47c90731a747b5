use Rattle.std.proofs.Common.{◌≡◌, [], length, sym, ap, ◌∙◌, arith}
use Rattle.std.proofs.lemmas.List.{nil_from_length}
use Rattle.std.specs.Ordering.{on}
use Rattle.occ_types.specs.Key.{key_cmp}
use Rattle.occ_types.specs.PlainData.{key_of, question_of}
use Rattle.occ_sets.specs.Handles.{kept}
use Rattle.occ_sets.specs.Merging.{merged}
use Rattle.occ_sets.specs.Overlays.{rows_over}
use Rattle.occ_sets.specs.PlainSets.{rows_of}
use Rattle.occ_sets.proofs.Leading.{merged_none, merged_over}
use Rattle.occ_sets.proofs.writes.WriteSet.over.Goals as goal

-- no write is asked for
pub returns-then-len-eq0-clause-seen : goal.returns-then-len-eq0-clause-seen
returns-then-len-eq0-clause-seen g c =
    let q = question_of c.args.question.now in
    let own = c.in-Ok.own.entries in
    let rows = c.args.rows.items in
    let count : length own ≡ 0 = omega (arith, c.len.ensures.len, c.if-len-eq0.true) in
    let none : own ≡ [] = nil_from_length own count in
    sym (ap (λ own. rows_of (merged (on key_of key_cmp) rows own)) none ∙ ap rows_of (merged_none rows))
    ∙ merged_over q c.requires.answered.0 (kept c.self.inside.handle) rows own c.requires.answered.1 c.len.ensures.ordered c.in-Ok.ensures
    ∙ ap (λ writes. rows_over q writes (rows_of rows)) c.self.view_is

-- the writes that are asked for are laid over the rows
pub returns-clause-seen : goal.returns-clause-seen
returns-clause-seen g c =
    let q = question_of c.args.question.now in
    let rows = c.args.rows.items in
    ap rows_of c.merge.ensures.rows
    ∙ merged_over q c.requires.answered.0 (kept c.self.inside.handle) rows c.in-Ok.own.entries c.requires.answered.1 c.merge.ensures.ordered c.in-Ok.ensures
    ∙ ap (λ writes. rows_over q writes (rows_of rows)) c.self.view_is
