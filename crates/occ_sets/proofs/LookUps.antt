-- What is looked up by its place, in a list or in a vector.
use Rattle.std.proofs.Common.{◌≡◌, ℕ, List, length, Option, None, Some, refl, sym, ap, ◌∙◌, slice_get, option_copied, Bor}
use Rattle.std.proofs.lemmas.Option.{slice_get_past, slice_get_read}
use Rattle.std.specs.Slice.{IsItemAt}

-- what a look-up by place answers is the element there
item-at : {X : Type 0} (xs : List X) (i : ℕ) (r : Option (Bor X)) → IsItemAt xs i r → slice_get xs i ≡ option_copied r
item-at xs i None h = slice_get_past xs i h.3
item-at xs i (Some x) h = slice_get_read xs (length xs) i x.now refl h.3.0 h.1

-- the same, of a list that is read from a vector
pub table-at : {X : Type 0} (maps xs : List X) (i : ℕ) (r o : Option (Bor X)) → xs ≡ maps → IsItemAt xs i r → r ≡ o → slice_get maps i ≡ option_copied o
table-at maps xs i r o same is found = ap (λ l. slice_get l i) (sym same) ∙ item-at xs i r is ∙ ap option_copied found
