use Rattle.std.proofs.Common.{◌≡◌, true, subst, sym, ap, ◌∙◌, rules}
use Rattle.std.specs.Prelude.{slice_get}
use Rattle.std.specs.Option.{option_copied}
use Rattle.occ_types.specs.Question.{asks}
use Rattle.occ_types.specs.Row.{Row}
use Rattle.occ_types.specs.PlainData.{key_of, object_of, question_of}
use Rattle.occ_model.specs.State.{Write}
use Rattle.occ_sets.specs.Handles.{kept}
use Rattle.occ_sets.specs.Merging.{LedFurther}
use Rattle.occ_sets.proofs.Leading.{led-asked, led-unasked, led_found}
use Rattle.occ_sets.proofs.prepared.note_write.Goals as goal

-- a write that is asked for is noted under its key
pub returns-in_ok-insert : goal.returns-in_ok-insert
returns-in_ok-insert g c = λ there f.
    let q = question_of c.args.question.now in
    let old = c.args.own.now.entries in
    let new = c.insert.new.self.entries in
    let o = c.in-Some.object.now in
    let key = c.in_ok-clone.field-0 in
    let copy = c.in_ok-copied.field-0 in
    let same_key : key ≡ o.key = search rules in
    let same_row : copy ≡ option_copied {T = Row} c.in-Some.row = search rules in
    let within : asks q (o.table, key_of key) ≡ true = ap (λ k. asks q (o.table, key_of k)) same_key ∙ sym c.asks.ensures ∙ c.if-asks.true in
    let leads = led-asked q old new o.table key copy within c.in_ok-insert.ensures.updates.0 in
    let here : Write = (object_of o, option_copied {T = Row} c.in-Some.row) in
    led_found q old new here there (slice_get (kept c.args.writes.now) c.args.place) c.in-Some.ensures.value (subst (λ (w : Write). LedFurther q old new w) (λ i. ((o.table, key_of (same_key i)), same_row i)) leads) f

-- and another one changes nothing
pub returns-else-asks : goal.returns-else-asks
returns-else-asks g c = λ there f.
    let q = question_of c.args.question.now in
    let own = c.args.own.now.entries in
    let o = object_of c.in-Some.object.now in
    let row = option_copied {T = Row} c.in-Some.row in
    led_found q own own (o, row) there (slice_get (kept c.args.writes.now) c.args.place) c.in-Some.ensures.value (led-unasked q own o row (sym c.asks.ensures ∙ c.if-asks.false)) f
