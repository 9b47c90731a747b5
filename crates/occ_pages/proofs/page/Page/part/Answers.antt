use Rattle.std.proofs.Common.{◌≡◌, ◌-◌, ℕ, min, length, take, drop, sym, ap, ◌∙◌, arith, length-take, length-drop}
use Rattle.occ_pages.specs.Pages.{zipped}
use Rattle.occ_pages.proofs.Zipped.{length-zipped, zipped-take, zipped-drop}
use Rattle.occ_pages.proofs.page.Page.part.Goals as goal

pub between-requires-clause-there : goal.between-requires-clause-there
between-requires-clause-there g c =
    let long = sym (ap length c.self.view_is) ∙ length-zipped c.self.inside.keys.items c.self.inside.rows.items c.self.invariant.same in
    omega (arith, ap length c.deref.ensures.value, long, c.ends-start.ensures.there)

pub between-requires-2-clause-there : goal.between-requires-2-clause-there
between-requires-2-clause-there g c =
    let long = sym (ap length c.self.view_is) ∙ length-zipped c.self.inside.keys.items c.self.inside.rows.items c.self.invariant.same in
    omega (arith, ap length c.deref-2.ensures.value, long, c.self.invariant.same, c.ends-start.ensures.there)

pub returns-clause-within : goal.returns-clause-within
returns-clause-within g c =
    let start = c.ends-start.result.0 in
    let count = c.ends-start.result.1 - start in
    let keys = c.self.inside.keys.items in
    let rows = c.self.inside.rows.items in
    (λ i. zipped ((c.between.ensures ∙ ap (λ ks. take count (drop start ks)) c.deref.ensures.value) i) ((c.between-2.ensures ∙ ap (λ rs. take count (drop start rs)) c.deref-2.ensures.value) i))
    ∙ zipped-take count (drop start keys) (drop start rows)
    ∙ ap (take count) (zipped-drop start keys rows ∙ ap (drop start) c.self.view_is)
    ∙ c.ends-start.ensures.within

pub returns-clause-same : goal.returns-clause-same
returns-clause-same g c =
    let start = c.ends-start.result.0 in
    let count = c.ends-start.result.1 - start in
    let keys = c.self.inside.keys.items in
    let rows = c.self.inside.rows.items in
    ap length (c.between.ensures ∙ ap (λ ks. take count (drop start ks)) c.deref.ensures.value)
    ∙ length-take count (drop start keys)
    ∙ same count (length-drop start keys ∙ ap (λ n. n - start) c.self.invariant.same ∙ sym (length-drop start rows))
    ∙ sym (length-take count (drop start rows))
    ∙ sym (ap length (c.between-2.ensures ∙ ap (λ rs. take count (drop start rs)) c.deref-2.ensures.value))
  where
    same : (count : ℕ) {a b : ℕ} → a ≡ b → min count a ≡ min count b
    same count e = ap (min count) e
