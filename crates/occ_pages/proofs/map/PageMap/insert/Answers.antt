use Rattle.std.proofs.Common.{◌≡◌, ◌<◌, ◌==◌, ℕ, true, false, Result, Ok, Err, OnErr, sym, ap, subst, ◌∙◌, arith}
use Rattle.std.proofs.lemmas.List.{nil_from_length}
use Rattle.std.proofs.lemmas.Bool.Decides.{nat_tests}
use Rattle.occ_pages.specs.Entries.{AllBelow, get, put}
use Rattle.occ_pages.specs.Pages.{flatten}
use Rattle.occ_pages.proofs.Changes.{missing, gap-at}
use Rattle.occ_pages.proofs.map.PageMap.insert.Goals as goal

none : (n : ℕ) → (n == 0) ≡ true → n ≡ 0
none n e = grind (arith, nat_tests)

some : (n : ℕ) → (n == 0) ≡ false → 0 < n
some n e = grind (arith, nat_tests)

pub begin-requires : goal.begin-requires
begin-requires g c =
    let pages = c.self.inside.shelf.pages in
    let empty = nil_from_length pages.items (omega (arith, pages.ok.0, none pages.len (sym c.is_empty.ensures ∙ c.if-is_empty.true))) in
    record { shelf = c.self.invariant.shelf; last = subst (λ ps. AllBelow c.args.key (flatten ps)) (sym empty) tt }

pub seek-page-requires : goal.seek-page-requires
seek-page-requires g c =
    let pages = c.self.inside.shelf.pages in
    record { shelf = c.self.invariant.shelf; some = omega (arith, pages.ok.0, some pages.len (sym c.is_empty.ensures ∙ c.if-is_empty.false)) }

pub exchange-requires : goal.exchange-requires
exchange-requires g c = record { shelf = c.self.invariant.shelf; there = c.seek-page.ensures; has = sym c.has.ensures ∙ c.if-has.true }

pub add-requires : goal.add-requires
add-requires g c = record {
  shelf = c.self.invariant.shelf;
  gap = gap-at c.args.key c.self.inside.shelf.pages.items c.seek-page.result.0 c.seek-page.result.1 c.seek-page.ensures (sym c.has.ensures ∙ c.if-has.false);
}

-- what holds holds at an error
any : {V E P : Type 0} (r : Result V E) → P → OnErr r P
any (Ok v) p = tt
any (Err e) p = p

pub returns-then-self-ge-MOST-clause-new_key : goal.returns-then-self-ge-MOST-clause-new_key
returns-then-self-ge-MOST-clause-new_key g c =
    sym (ap (λ es. get es c.args.key) c.self.view_is)
    ∙ sym (missing c.args.key c.self.inside.shelf.pages.items c.seek-page.result.0 c.seek-page.result.1 c.seek-page.ensures (sym c.has.ensures ∙ c.if-has.false))

pub returns-in_err-add-clause-new_key : goal.returns-in_err-add-clause-new_key
returns-in_err-add-clause-new_key g c =
    any c.from_residual-in_err-add.result
    (sym (ap (λ es. get es c.args.key) c.self.view_is)
    ∙ sym (missing c.args.key c.self.inside.shelf.pages.items c.seek-page.result.0 c.seek-page.result.1 c.seek-page.ensures (sym c.has.ensures ∙ c.if-has.false)))

pub returns : goal.returns
returns g c = record {
  was = missing c.args.key c.self.inside.shelf.pages.items c.seek-page.result.0 c.seek-page.result.1 c.seek-page.ensures (sym c.has.ensures ∙ c.if-has.false) ∙ ap (λ es. get es c.args.key) c.self.view_is;
  ok = c.in_ok-add.ensures.new ∙ ap (λ es. put es c.args.key c.args.row) c.self.view_is;
  err = tt;
  value = tt;
  new_key = tt;
}
