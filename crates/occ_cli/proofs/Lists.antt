-- What is written of a list, one value after another.
use Rattle.std.proofs.Common.{◌≡◌, ℕ, ◌+◌, ◌<◌, List, [], ◌∷◌, ◌++◌, length, map, take, get_or, sym, ap, ◌∙◌, append_assoc, flat_map}
use Rattle.occ_cli.proofs.Common.{map-append, take_more, append-nil}
use Rattle.std.proofs.lemmas.List.Concat.{flat_map-append}

-- one more value behind those that were written
pub one_more : {X Y : Type 0} (spell : Y → List ℕ) (view : X → Y) (old line new : List ℕ) (values : List X) (i : ℕ) (x : X) → i < length values → x ≡ get_or values i x
    → line ≡ old ++ flat_map spell (map view (take i values)) → new ≡ line ++ spell (view x) → new ≡ old ++ flat_map spell (map view (take (i + 1) values))
one_more spell view old line new values i x lt is so_far more =
    let written = λ (xs : List _). flat_map spell (map view xs) in
    let done = written (take i values) in
    let all : written (take (i + 1) values) ≡ done ++ spell (view x) =
    ap written (take_more values i x lt ∙ ap (λ y. take i values ++ y ∷ []) (sym is))
    ∙ (ap (flat_map spell) (map-append view (take i values) (x ∷ [])) ∙ flat_map-append spell (map view (take i values)) (view x ∷ []))
    ∙ ap (λ l. done ++ l) (append-nil (spell (view x))) in
    more ∙ ap (λ (l : List ℕ). l ++ spell (view x)) so_far ∙ append_assoc old done (spell (view x)) ∙ ap (λ (l : List ℕ). old ++ l) (sym all)
