use Rattle.std.proofs.Common.{◌≡◌, true, None, Some, subst, sym, ap, ◌∙◌, rules}
use Rattle.std.specs.Prelude.{slice_get}
use Rattle.std.specs.Option.{option_copied}
use Rattle.occ_types.specs.Question.{asks}
use Rattle.occ_types.specs.Row.{Row}
use Rattle.occ_types.specs.PlainData.{key_of, object_of, question_of}
use Rattle.occ_model.specs.State.{Write}
use Rattle.occ_sets.specs.Handles.{kept}
use Rattle.occ_sets.specs.Overlays.{FollowsWrite}
use Rattle.occ_sets.proofs.Agreement.{follows-asked, follows-unasked, follows_found}
use Rattle.occ_sets.proofs.overlays.write.Goals as goal

-- a write that is not asked for changes no answer
pub returns-then-not-asks : goal.returns-then-not-asks
returns-then-not-asks g c = λ there f.
    let q = question_of c.args.question.now in
    let es = c.args.seen.now.entries in
    let o = object_of c.in-Some.object.now in
    let row = option_copied {T = Row} c.in-Some.row in
    follows_found q es es (o, row) there (slice_get (kept c.args.writes.now) c.args.place) c.in-Some.ensures.value (follows-unasked q es o row (sym c.asks.ensures ∙ c.if-not-asks.true)) f

-- a new row is put under its key
pub returns-in_ok-insert-in-Some-row : goal.returns-in_ok-insert-in-Some-row
returns-in_ok-insert-in-Some-row g c = λ there f.
    let q = question_of c.args.question.now in
    let old = c.args.seen.now.entries in
    let new = c.insert.new.self.entries in
    let o = c.in-Some.object.now in
    let key = c.in_ok-clone-in-Some-row.field-0 in
    let copy = c.in_ok-clone-in-Some-row-2.field-0 in
    let same_key : key ≡ o.key = search rules in
    let same_row : copy ≡ c.in-Some-row.row.now = search rules in
    let row : Some copy ≡ option_copied {T = Row} c.in-Some.row = ap Some same_row ∙ ap (option_copied {T = Row}) (sym c.in-Some-row.is) in
    let within : asks q (o.table, key_of key) ≡ true = ap (λ k. asks q (o.table, key_of k)) same_key ∙ sym c.asks.ensures ∙ c.if-not-asks.false in
    let follows = follows-asked q old new o.table key (Some copy) within c.in_ok-insert-in-Some-row.ensures.updates.0 in
    let here : Write = (object_of o, option_copied {T = Row} c.in-Some.row) in
    follows_found q old new here there (slice_get (kept c.args.writes.now) c.args.place) c.in-Some.ensures.value (subst (λ (w : Write). FollowsWrite q old new w) (λ i. ((o.table, key_of (same_key i)), row i)) follows) f

-- a deletion takes its key away
pub returns-in-None : goal.returns-in-None
returns-in-None g c = λ there f.
    let q = question_of c.args.question.now in
    let old = c.args.seen.now.entries in
    let new = c.remove.new.self.entries in
    let o = c.in-Some.object.now in
    let within : asks q (o.table, key_of o.key) ≡ true = sym c.asks.ensures ∙ c.if-not-asks.false in
    let row : None ≡ option_copied {T = Row} c.in-Some.row = ap (option_copied {T = Row}) (sym c.in-None.is) in
    let follows = follows-asked q old new o.table o.key None within c.remove.ensures.updates.0 in
    let here : Write = (object_of o, option_copied {T = Row} c.in-Some.row) in
    follows_found q old new here there (slice_get (kept c.args.writes.now) c.args.place) c.in-Some.ensures.value (subst (λ (w : Write). FollowsWrite q old new w) (λ i. ((o.table, key_of o.key), row i)) follows) f
