use Rattle.std.proofs.Common.{◌≡◌, suc, refl, sym, ap, ◌∙◌, arith, slice_get}
use Rattle.occ_log.proofs.Common.{listed_at, option_copied, table-at}
use Rattle.occ_log.proofs.Listed.{listed-found}
use Rattle.occ_log.proofs.listing.Listing.get.Goals as goal

pub returns : goal.returns
returns g c =
    let own : c.args.session ≡ suc c.in_ok-checked_sub.field-0 = omega (arith, c.in_ok-checked_sub.ensures) in
    c.copied.ensures ∙ sym (table-at c.in_ok-places.places.now.items _ c.args.before c.get-2.result c.get-2.result c.deref-2.ensures.value c.get-2.ensures.lookup refl)
    ∙ sym (listed-found c.self.inside.lists.items c.in_ok-checked_sub.field-0 c.args.session c.args.before c.in_ok-places.places.now own
    (table-at c.self.inside.lists.items _ c.in_ok-checked_sub.field-0 c.get.result c.get.result c.deref.ensures.value c.get.ensures.lookup refl ∙ ap option_copied c.in_ok-places.was))
    ∙ ap (λ lists. slice_get (listed_at lists c.args.session).places c.args.before) c.self.view_is
