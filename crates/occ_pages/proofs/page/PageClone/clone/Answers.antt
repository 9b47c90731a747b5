use Rattle.std.proofs.Common.{length, ap, subst, sym, arith}
use Rattle.std.proofs.lemmas.Slice.Zip.{AllZip-long}
use Rattle.occ_pages.specs.Copies.{AreCopies}
use Rattle.occ_pages.specs.Pages.{zipped}
use Rattle.occ_pages.proofs.Copied.{zipped-copies}
use Rattle.occ_pages.proofs.page.PageClone.clone.Goals as goal

pub returns : goal.returns
returns g c = record {
  cases = subst (λ es. AreCopies g.T.Clone.is_clone es (zipped c.in_ok-keys.keys.items c.in_ok-rows.rows.items)) c.self.view_is
      (subst (λ keys. AreCopies g.T.Clone.is_clone (zipped c.self.inside.keys.items c.self.inside.rows.items) (zipped keys c.in_ok-rows.rows.items)) (sym c.in_ok-keys.ensures.items)
      (zipped-copies g.T.Clone.is_clone c.self.inside.keys.items c.self.inside.rows.items c.in_ok-rows.rows.items c.in_ok-rows.ensures.items));
}

pub invariant_of-result : goal.invariant_of-result
invariant_of-result g c =
    let rows = AllZip-long _ c.self.inside.rows.items c.in_ok-rows.rows.items c.in_ok-rows.ensures.items in
    let keys = ap length c.in_ok-keys.ensures.items in
    record {
      same = omega (arith, keys, rows, c.self.invariant.same);
      few = omega (arith, keys, c.self.invariant.few);
      keys_room = c.in_ok-keys.ensures.room;
      rows_room = c.in_ok-rows.ensures.room;
    }
