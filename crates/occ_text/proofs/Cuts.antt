-- Where bytes are cut at a separator.
use Rattle.std.proofs.Common.{◌≡◌, ◌≢◌, ℕ, ◌+◌, ◌-◌, ◌<◌, Bool, false, eqb, List, [], ◌∷◌, ◌++◌, length, take, drop, get_or, refl, sym, ap, subst, ◌∙◌, take-append-drop, arith}
use Rattle.std.specs.List.{slice_split, All}
use Rattle.std.proofs.lemmas.List.{append-nil, drop-drop, drop_more, take_rest, nil_from_length}
use Rattle.std.proofs.lemmas.List.Splits.{slice_split_none, slice_split_at}
use Rattle.std.proofs.lemmas.Bool.{eq-eqb}
use Rattle.occ_text.proofs.Words.{lacks}

-- with no separator there is one part
pub cut_none : (separator : ℕ) (bytes part back : List ℕ) (at : ℕ) → part ≡ take at bytes → back ≡ drop at bytes → length back < 1 → All (λ byte. byte ≢ separator) (take at bytes)
    → slice_split (λ byte. eqb byte separator) bytes ≡ part ∷ []
cut_none separator bytes part back at front rest empty none =
    let all : bytes ≡ take at bytes = sym (take-append-drop at bytes) ∙ ap (λ (l : List ℕ). take at bytes ++ l) (sym rest ∙ nil_from_length back (omega arith)) ∙ append-nil (take at bytes) in
    slice_split_none (λ byte. eqb byte separator) bytes (subst (All (λ byte. eqb byte separator ≡ false)) (sym all) (lacks separator (take at bytes) none)) ∙ ap (λ (l : List ℕ). l ∷ []) (all ∙ sym front)

-- the first part ends at the first separator
pub cut_some : (separator : ℕ) (bytes part back : List ℕ) (at : ℕ) → part ≡ take at bytes → back ≡ drop at bytes → at < length bytes → get_or bytes at 0 ≡ separator → All (λ byte. byte ≢ separator) (take at bytes)
    → slice_split (λ byte. eqb byte separator) bytes ≡ part ∷ slice_split (λ byte. eqb byte separator) (take (length back - 1) (drop 1 back))
cut_some separator bytes part back at front rest lt found none =
    let p : ℕ → Bool = λ byte. eqb byte separator in
    let after : take (length back - 1) (drop 1 back) ≡ drop (at + 1) bytes = take_rest back 1 ∙ ap (drop 1) rest ∙ drop-drop 1 at bytes in
    let all : bytes ≡ take at bytes ++ separator ∷ drop (at + 1) bytes = sym (take-append-drop at bytes) ∙ ap (λ (l : List ℕ). take at bytes ++ l) (drop_more bytes at 0 lt ∙ ap (λ (b : ℕ). b ∷ drop (at + 1) bytes) found) in
    ap (slice_split p) all ∙ slice_split_at p (take at bytes) separator (drop (at + 1) bytes) (lacks separator (take at bytes) none) (eq-eqb separator separator refl)
    ∙ ap (λ (l : List ℕ). l ∷ slice_split p (drop (at + 1) bytes)) (sym front) ∙ ap (λ (l : List ℕ). part ∷ slice_split p l) (sym after)
