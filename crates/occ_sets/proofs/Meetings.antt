-- Whether writes meet questions or writes, by look-ups.
use Rattle.std.proofs.Common.{◌≡◌, ℕ, zero, suc, ◌+◌, ◌<◌, ◌≤◌, Bool, true, false, cond, ◌||◌, List, [], ◌∷◌, Option, Some, is_some, drop, length, refl, sym, ap, ◌∙◌, add-one, arith}
use Rattle.std.proofs.lemmas.List.{drop_all}
use Rattle.std.specs.Option.{option_map_or}
use Rattle.std.specs.Prelude.{map, slice_get}
use Rattle.std.specs.List.{list_any}
use Rattle.std.specs.Map.{keys_of}
use Rattle.std.specs.Ordering.{eq_by_cmp}
use Rattle.occ_types.specs.declared.objects.Object as code
use Rattle.occ_types.specs.Key.{Key}
use Rattle.occ_types.specs.Object.{object_cmp}
use Rattle.occ_types.specs.Question.{Question, One, asks}
use Rattle.occ_types.specs.Row.{Row}
use Rattle.occ_types.specs.PlainData.{object_of}
use Rattle.occ_model.specs.State.{Observation, Write, meets_question, meets_reads, meets_writes}
use Rattle.occ_model.specs.Overlay.{own}
use Rattle.occ_sets.specs.PlainSets.{writes_of}

-- a look-up finds what the first value or the rest is
pub or_some : {X : Type 0} (b : Bool) (x : X) (r : Option X) → (b || is_some r) ≡ is_some (cond b (Some x) r)
or_some true x r = refl
or_some false x r = refl

-- writes meet a single key exactly where they write it
pub meets_question-One : (writes : List Write) (table : ℕ) (key : Key) → meets_question writes (One table key) ≡ is_some (own writes (table, key))
unfolding asks
meets_question-One [] table key = refl
meets_question-One (w ∷ ws) table key =
    ap (λ b. asks (One table key) w.0 || b) (meets_question-One ws table key)
    ∙ or_some (eq_by_cmp object_cmp (table, key) w.0) w.1 (own ws (table, key))

-- the question at a place, and then those behind it
next_met : (writes : List Write) (reads : List Observation) (place : ℕ) → place < length reads
    → meets_reads writes (map (λ o. o.0) (drop place reads)) ≡ (option_map_or (λ o. meets_question writes o.0) (slice_get reads place) false || meets_reads writes (map (λ o. o.0) (drop (suc place) reads)))
next_met writes [] place within = absurd (omega (arith, within))
next_met writes (o ∷ os) zero within = refl
next_met writes (o ∷ os) (suc place) within = next_met writes os place (omega (arith, within))

-- one that is met is among them
pub met_here : (writes : List Write) (reads : List Observation) (place : ℕ) (met : Bool) → place < length reads
    → met ≡ option_map_or (λ o. meets_question writes o.0) (slice_get reads place) false → met ≡ true
    → meets_reads writes (map (λ o. o.0) (drop place reads)) ≡ true
met_here writes reads place met within is yes_met =
    next_met writes reads place within ∙ ap (λ b. b || meets_reads writes (map (λ o. o.0) (drop (suc place) reads))) (sym is ∙ yes_met)

-- and one that is not leaves the others
pub met_later : (writes : List Write) (reads : List Observation) (place : ℕ) (met : Bool) → place < length reads
    → met ≡ option_map_or (λ o. meets_question writes o.0) (slice_get reads place) false → met ≡ false
    → meets_reads writes (map (λ o. o.0) (drop (place + 1) reads)) ≡ meets_reads writes (map (λ o. o.0) (drop place reads))
met_later writes reads place met within is not_met =
    ap (λ k. meets_reads writes (map (λ o. o.0) (drop k reads))) (add-one place)
    ∙ sym (next_met writes reads place within ∙ ap (λ b. b || meets_reads writes (map (λ o. o.0) (drop (suc place) reads))) (sym is ∙ not_met))

-- and none where no question is left
pub met_none : (writes : List Write) (reads : List Observation) (place : ℕ) → length reads ≤ place → meets_reads writes (map (λ o. o.0) (drop place reads)) ≡ false
met_none writes reads place past = ap (λ os. meets_reads writes (map (λ o. o.0) os)) (drop_all place reads past)

or_none : (b : Bool) → (b || false) ≡ b
or_none true = refl
or_none false = refl

-- writes meet one write where they write its object
pub meets_one : (writes : List Write) (w : Write) → is_some (own writes w.0) ≡ meets_writes writes (w ∷ [])
meets_one writes w = sym (meets_question-One writes w.0.0 w.0.1) ∙ sym (or_none (meets_question writes (One w.0.0 w.0.1)))

-- and two where they write that of the first, or else of the second
pub meets_first : (writes : List Write) (w v : Write) (r : Bool) → r ≡ is_some (own writes w.0) → r ≡ true → true ≡ meets_writes writes (w ∷ v ∷ [])
meets_first writes w v r is yes_it =
    ap (λ b. b || meets_writes writes (v ∷ [])) (sym yes_it ∙ is ∙ sym (meets_question-One writes w.0.0 w.0.1))

pub meets_second : (writes : List Write) (w v : Write) (r s : Bool) → r ≡ is_some (own writes w.0) → r ≡ false → s ≡ is_some (own writes v.0) → s ≡ meets_writes writes (w ∷ v ∷ [])
meets_second writes w v r s is not_it there =
    there ∙ meets_one writes v ∙ ap (λ b. b || meets_writes writes (v ∷ [])) (sym not_it ∙ is ∙ sym (meets_question-One writes w.0.0 w.0.1))

module _ {Z : Type 0} where
  -- a test of each entry is a test of each write
  pub meets_question-entries : (question : Question) (es : List (code.Object Z × Option Row)) → list_any (λ e. asks question (object_of e.0)) es ≡ meets_question (writes_of es) question
  meets_question-entries question [] = refl
  meets_question-entries question (e ∷ es) = ap (λ b. asks question (object_of e.0) || b) (meets_question-entries question es)

  -- and so is one of each key
  pub meets_question-keys : (question : Question) (es : List (code.Object Z × Option Row)) → list_any (λ o. asks question (object_of o)) (keys_of es) ≡ meets_question (writes_of es) question
  meets_question-keys question [] = refl
  meets_question-keys question (e ∷ es) = ap (λ b. asks question (object_of e.0) || b) (meets_question-keys question es)

  -- writes meet writes where they write an object of theirs
  pub meets_writes-entries : (writes : List Write) (es : List (code.Object Z × Option Row)) → list_any (λ e. is_some (own writes (object_of e.0))) es ≡ meets_writes writes (writes_of es)
  meets_writes-entries writes [] = refl
  meets_writes-entries writes (e ∷ es) =
      let first = sym (meets_question-One writes e.0.table (object_of e.0).1) in
      let rest = meets_writes-entries writes es in
      λ i. first i || rest i

  pub meets_writes-keys : (writes : List Write) (es : List (code.Object Z × Option Row)) → list_any (λ o. is_some (own writes (object_of o))) (keys_of es) ≡ meets_writes writes (writes_of es)
  meets_writes-keys writes [] = refl
  meets_writes-keys writes (e ∷ es) =
      let first = sym (meets_question-One writes e.0.table (object_of e.0).1) in
      let rest = meets_writes-keys writes es in
      λ i. first i || rest i
