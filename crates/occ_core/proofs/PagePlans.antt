-- A page that is cut so is answered by a plan that tells no more than it asks for.
use Rattle.std.proofs.Common.{◌≡◌, ◌≤◌, ◌+◌, ◌-◌, ℕ, length, take, drop, List, Option, refl, sym, ap, ◌∙◌, arith}
use Rattle.std.proofs.lemmas.List.{length-drop, length-take}
use Rattle.occ_types.specs.Key.{Key}
use Rattle.occ_types.specs.Question.{Span}
use Rattle.occ_types.specs.Row.{Row}
use Rattle.occ_model.proofs.PageRows.{first_pages, last_pages, first_sides, last_sides, some_size}
use Rattle.occ_model.specs.Content.{IsInSchema}
use Rattle.occ_model.specs.Paging.{page_size}
use Rattle.occ_model.specs.World.{World}
use Rattle.occ_open.specs.Pages.{Fits, IsPlan, page_form, rows_in, side_of, asks_of, tells_of}
use Rattle.occ_open.specs.declared.pages.PageEnd.{PageEnd}
use Rattle.occ_open.specs.declared.pages.PageEnd.TheVariants.{First, Last}

-- what a page asks for, and its rest, make its plan
pub planned : (world : World) (end : PageEnd) (table : ℕ) (lower upper : Option Key) (most : ℕ) (asked rest : Option Key) → IsInSchema world
    → side_of end table lower upper asked ≡ asks_of end table lower upper most world
    → (Fits world (page_form end table lower upper most) → rest ≡ (tells_of end (page_size most) (rows_in world (Span table lower upper))).1)
    → IsPlan world (page_form end table lower upper most) (record { end = end; asked = side_of end table lower upper asked; rest = rest; shown = side_of end table lower upper rest })
planned world First table lower upper most asked rest content asks cut =
    let law = first_pages world.settings.schema world.table table most lower upper content.table in
    record {
      asked = asks;
      shown = refl;
      rest = cut;
      whole = λ fits. sym ((law fits).page.told world.table refl);
      side = λ fits. ap (λ r. rows_in world (side_of First table lower upper r)) (cut fits) ∙ (first_sides world.table table lower upper (page_size most)).shown;
      few = λ fits. at_most (page_size most + 1) _ _ (law fits).answered;
    }
  where
    at_most : (n : ℕ) (found rows : List (Key × Row)) → found ≡ take n rows → length found ≤ n
    at_most n found rows is = omega (arith, ap length is, length-take n rows)
planned world Last table lower upper most asked rest content asks cut =
    let law = last_pages world.settings.schema world.table table most lower upper content.table in
    record {
      asked = asks;
      shown = refl;
      rest = cut;
      whole = λ fits. sym ((law fits).page.told world.table refl);
      side = λ fits. ap (λ r. rows_in world (side_of Last table lower upper r)) (cut fits) ∙ (last_sides world.table table lower upper (page_size most) (some_size most)).shown;
      few = λ fits. at_most (page_size most + 1) _ _ (law fits).answered;
    }
  where
    at_most : (n : ℕ) (found rows : List (Key × Row)) → found ≡ drop (length rows - n) rows → length found ≤ n
    at_most n found rows is = omega (arith, ap length is, length-drop (length rows - n) rows)
