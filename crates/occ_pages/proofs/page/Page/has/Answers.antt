use Rattle.std.proofs.Common.{◌≡◌, ◌<◌, ◌≤◌, length, drop, nat_eq, nat_lt, false, sym, ap, ◌∙◌, arith}
use Rattle.std.proofs.lemmas.Bool.Decides.{nat_tests}
use Rattle.std.proofs.lemmas.List.{get_or_default}
use Rattle.occ_pages.specs.Pages.{begins_with}
use Rattle.occ_pages.proofs.Zipped.{begins-there, begins-past}
use Rattle.occ_pages.proofs.page.Page.has.Goals as goal

pub returns-then-place-len : goal.returns-then-place-len
returns-then-place-len g c =
    let keys = c.self.inside.keys.items in
    let there : c.args.place < length keys = omega (arith, c.self.inside.keys.ok.0) in
    let key = c.index.ensures ∙ get_or_default keys c.args.place c.index.result.now 0 there in
    ap (λ k. nat_eq k c.args.key) key
    ∙ sym (begins-there keys c.self.inside.rows.items c.args.place c.args.key c.self.invariant.same there)
    ∙ ap (λ es. begins_with c.args.key (drop c.args.place es)) c.self.view_is

pub returns-else-place-len : goal.returns-else-place-len
returns-else-place-len g c =
    let past : length c.self.inside.keys.items ≤ c.args.place = omega (arith, c.self.inside.keys.ok.0) in
    let no : nat_lt c.args.place c.len.result ≡ false = grind (arith, nat_tests) in
    no
    ∙ sym (begins-past c.self.inside.keys.items c.self.inside.rows.items c.args.place c.args.key c.self.invariant.same past)
    ∙ ap (λ es. begins_with c.args.key (drop c.args.place es)) c.self.view_is
