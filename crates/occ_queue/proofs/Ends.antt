-- What the ends of a lane keep, as they are made, told and used.
use Rattle.std.proofs.Common.{◌≡◌, ℕ, zero, suc, ◌+◌, ◌-◌, ◌≤◌, Bool, true, false, ◌||◌, List, [], ◌∷◌, ◌++◌, map, length, refl, sym, ap, subst, ◌∙◌, arith}
use Rattle.std.specs.Prelude.{Option, None, Some, IfSome, drop, slice_get}
use Rattle.std.specs.List.{list_any}
use Rattle.std.proofs.lemmas.List.{append-nil, map-append, length-map, length-drop, length_push, nil_from_length}
use Rattle.std.proofs.lemmas.List.Folds.{list_any-append}
use mathlib.Core.List.{IsPrefix}
use Rattle.atomic_table.specs.Seated.{TableId}
use Rattle.crossbeam_queue.specs.Fifo.{Held}
use Rattle.occ_types.specs.declared.limits.TheConstants.{MAX_NUMBER}
use Rattle.occ_model.specs.Event.{Item, Close}
use Rattle.occ_model.proofs.Tests as tests
use Rattle.occ_queue.specs.declared.items.Item as code_item
use Rattle.occ_queue.specs.declared.numbering.Numbering.{Numbering}
use Rattle.occ_queue.specs.declared.rules.Knowledge.{Knowledge}
use Rattle.occ_queue.specs.Items.{item_of, items_of, is_mark}
use Rattle.occ_queue.specs.Numbering.{IsInTurn, next, with_item, turn_fault, close_fault}
use Rattle.occ_queue.specs.Lanes.{Known, InTurn, AreOfOne, as_queue, numbers}
use Rattle.occ_queue.specs.Rule.{knowledge}
use Rattle.occ_queue.proofs.Turns as turns
use Rattle.occ_queue.proofs.Beginnings.{unused_in_turn, prefix_nil, prefix_more, prefix_length, prefix_map, in_turn_prefix, unmarked_front, get_front, get_last, marked_front}

pub unused_of_one : (before : ℕ) (pushed taken : List Item) → before ≤ MAX_NUMBER → pushed ≡ [] → taken ≡ [] → AreOfOne before pushed taken
unused_of_one before pushed taken within p q = subst (λ (l : List Item × List Item). AreOfOne before l.0 l.1) (λ i. (sym p i, sym q i))
    (record { all = []; in_turn = unused_in_turn before within; begins = prefix_nil []; began = prefix_nil [] })

pub unused_sender : (last before : ℕ) (pushed taken : List Item) → last ≡ before → last ≤ MAX_NUMBER → pushed ≡ [] → taken ≡ []
    → (record { pushed = last; closed = false } ≡ numbers before pushed) × InTurn before pushed × IsPrefix taken pushed
unused_sender last before pushed taken same within p q = subst (λ (l : List Item × List Item). (record { pushed = last; closed = false } ≡ numbers before l.0) × InTurn before l.0 × IsPrefix l.1 l.0) (λ i. (sym p i, sym q i))
    (let none : last ≡ before + 0 = omega arith in (λ i. record { pushed = none i; closed = false }), unused_in_turn before (omega arith), prefix_nil [])

or_nil : (b : Bool) → (b || false) ≡ b
or_nil true = refl
or_nil false = refl

marks : (xs : List Item) (x : Item) → list_any is_mark xs ≡ false → is_mark x ≡ list_any is_mark (xs ++ x ∷ [])
marks xs x none = sym (list_any-append is_mark xs (x ∷ []) ∙ ap (λ b. b || list_any is_mark (x ∷ [])) none ∙ or_nil (is_mark x))

-- what is known of a list in turn that ends with one more item
last_mark : (before : ℕ) (xs : List Item) (x : Item) → InTurn before (xs ++ x ∷ []) → is_mark x ≡ list_any is_mark (xs ++ x ∷ [])
last_mark before xs x law = marks xs x (unmarked_front _ xs x [] law.ended)

-- with one more item at the end
grown : (before : ℕ) (items : List Item) (item : Item) → IsInTurn (with_item (record { items = items; limit = 0; before = before; pushed = before + length items; closed = list_any is_mark items }) item) → InTurn before (items ++ item ∷ [])
grown before items item law =
    let longer = length_push items item in
    let last : before + length items + 1 ≡ before + length (items ++ item ∷ []) = omega arith in
    subst (λ (s : ℕ × Bool). IsInTurn (record { items = items ++ item ∷ []; limit = 0; before = before; pushed = s.0; closed = s.1 })) (λ i. (last i, marks items item (unmarked_front _ items item [] law.ended) i)) law

pub may_submit : (known : Known) (item : Item) → InTurn known.before known.pushed → turn_fault (as_queue known) item ≡ None → InTurn known.before (known.pushed ++ item ∷ [])
may_submit known item law free = grown known.before known.pushed item (turns.may_submit _ item law free)

pub may_close : (known : Known) (number : ℕ) → InTurn known.before known.pushed → close_fault (as_queue known) ≡ None → number ≡ next (as_queue known) → InTurn known.before (known.pushed ++ Close number ∷ [])
may_close known number law free told = grown known.before known.pushed (Close number) (turns.may_close _ number law free told)

-- no more were taken than there are numbers
pub few : (before : ℕ) (pushed taken : List Item) → AreOfOne before pushed taken → length taken ≤ MAX_NUMBER
few before pushed taken law = let within = (in_turn_prefix before taken law.all law.began law.in_turn).within in omega arith

-- what was taken is in turn
pub taken_in_turn : (before : ℕ) (pushed taken : List Item) → AreOfOne before pushed taken → InTurn before taken
taken_in_turn before pushed taken law = in_turn_prefix before taken law.all law.began law.in_turn

-- after the mark there is nothing
pub none_after : (before : ℕ) (pushed taken : List Item) → AreOfOne before pushed taken → list_any is_mark taken ≡ true → IsPrefix pushed taken
none_after before pushed taken law marked = subst (IsPrefix pushed) (sym (marked_front before taken law.all law.began law.in_turn marked)) law.begins

pub not_after : {P : Type 0} (before : ℕ) (pushed taken : List Item) (x : Item) → AreOfOne before pushed (taken ++ x ∷ []) → list_any is_mark taken ≡ true → P
not_after before pushed taken x law marked = tests.clash (list_any is_mark taken) marked (unmarked_front _ taken x [] (in_turn_prefix before (taken ++ x ∷ []) law.all law.began law.in_turn).ended)

get_beyond : {X : Type 0} (xs : List X) (i : ℕ) → length xs ≤ i → slice_get xs i ≡ None
get_beyond [] i le = refl
get_beyond (x ∷ xs) zero le = absurd (omega arith)
get_beyond (x ∷ xs) (suc i) le = get_beyond xs i (omega arith)

-- the next item is the one that was told of
pub next_told : (before : ℕ) (pushed taken : List Item) (x : Item) → AreOfOne before pushed (taken ++ x ∷ []) → IfSome (slice_get pushed (length taken)) (λ item. Some x ≡ Some item)
next_told before pushed taken x law = go (slice_get pushed (length taken)) refl
  where
    here : slice_get law.all (length taken) ≡ Some x
    here = subst (λ l. slice_get l (length taken) ≡ Some x) law.began.1 (get_front (taken ++ x ∷ []) law.began.0 (length taken) x (get_last taken x))

    go : (o : Option Item) → slice_get pushed (length taken) ≡ o → IfSome o (λ item. Some x ≡ Some item)
    go None e = tt
    go (Some y) e = sym here ∙ subst (λ l. slice_get l (length taken) ≡ Some y) law.begins.1 (get_front pushed law.begins.0 (length taken) y e)

pub none_told : (P : Item → Type 0) (pushed taken : List Item) → IsPrefix pushed taken → IfSome (slice_get pushed (length taken)) P
none_told P pushed taken all = subst (λ (o : Option Item). IfSome o P) (sym (get_beyond pushed (length taken) (prefix_length pushed taken all))) tt

module _ {Z : Type 0} where
  pub may_push : (pushed : List (code_item.Item Z)) (before : ℕ) (now : Known) (x : code_item.Item Z) → before ≡ now.before → items_of pushed ≡ now.pushed → InTurn now.before (now.pushed ++ item_of x ∷ [])
      → InTurn before (items_of (pushed ++ x ∷ []))
  may_push pushed before now x same is law = subst (λ b. InTurn b (items_of (pushed ++ x ∷ []))) (sym same) (subst (InTurn now.before) (ap (λ l. l ++ item_of x ∷ []) (sym is) ∙ sym (map-append item_of pushed (x ∷ []))) law)

  pub one_more : (before : ℕ) (pushed taken : List (code_item.Item Z)) (x : code_item.Item Z) (now : Known) → items_of pushed ≡ now.pushed → items_of taken ≡ now.taken
      → AreOfOne before (items_of pushed) (items_of (taken ++ x ∷ [])) → AreOfOne before now.pushed (now.taken ++ item_of x ∷ [])
  one_more before pushed taken x now p q law = subst (λ (l : List Item × List Item). AreOfOne before l.0 l.1) (λ i. (p i, (map-append item_of taken (x ∷ []) ∙ ap (λ l. l ++ item_of x ∷ []) q) i)) law

  abbrev pub Sends : Numbering → Knowledge Z → Type 0
  Sends last v = ((v.sends ≡ true) × (v.takes ≡ false)) × (last ≡ numbers v.before (items_of v.pushed)) × InTurn v.before (items_of v.pushed) × IsPrefix (items_of v.taken) (items_of v.pushed)

  abbrev pub Takes : ℕ → Bool → Knowledge Z → Type 0
  Takes count closed v = ((v.sends ≡ false) × (v.takes ≡ true)) × (count ≡ length (items_of v.taken)) × (closed ≡ list_any is_mark (items_of v.taken)) × AreOfOne v.before (items_of v.pushed) (items_of v.taken)

  pub pushed_keeps : (old new : Knowledge Z) (x : code_item.Item Z) (last : Numbering) → new ≡ knowledge old.sends old.takes old.before (old.pushed ++ x ∷ []) old.taken
      → InTurn old.before (items_of (old.pushed ++ x ∷ [])) → Sends last old → Sends (record { pushed = last.pushed + 1; closed = is_mark (item_of x) }) new
  pushed_keeps old new x last is law parts =
      let split : items_of (old.pushed ++ x ∷ []) ≡ items_of old.pushed ++ item_of x ∷ [] = map-append item_of old.pushed (x ∷ []) in
      let long = length_push (items_of old.pushed) (item_of x) in
      let counted : last.pushed ≡ old.before + length (items_of old.pushed) = ap (λ (n : Numbering). n.pushed) parts.1 in
      let more : last.pushed + 1 ≡ old.before + length (items_of old.pushed ++ item_of x ∷ []) = omega arith in
      let mark = last_mark old.before (items_of old.pushed) (item_of x) (subst (InTurn old.before) split law) in
      subst (Sends (record { pushed = last.pushed + 1; closed = is_mark (item_of x) })) (sym is) (
        parts.0,
        (λ i. record { pushed = more i; closed = mark i }) ∙ ap (numbers old.before) (sym split),
        law,
        subst (IsPrefix (items_of old.taken)) (sym split) (prefix_more (items_of old.taken) (items_of old.pushed) (item_of x ∷ []) parts.3),
      )

  pub taken_keeps : (old new : Knowledge Z) (x : code_item.Item Z) (count : ℕ) (closed : Bool) → new ≡ knowledge old.sends old.takes old.before old.pushed (old.taken ++ x ∷ [])
      → AreOfOne old.before (items_of old.pushed) (items_of (old.taken ++ x ∷ [])) → Takes count closed old → Takes (count + 1) (is_mark (item_of x)) new
  taken_keeps old new x count closed is law parts =
      let split : items_of (old.taken ++ x ∷ []) ≡ items_of old.taken ++ item_of x ∷ [] = map-append item_of old.taken (x ∷ []) in
      let long = length_push (items_of old.taken) (item_of x) in
      let counted : count ≡ length (items_of old.taken) = parts.1 in
      let more : count + 1 ≡ length (items_of old.taken ++ item_of x ∷ []) = omega arith in
      subst (Takes (count + 1) (is_mark (item_of x))) (sym is) (
        parts.0,
        more ∙ ap length (sym split),
        last_mark old.before (items_of old.taken) (item_of x) (subst (InTurn old.before) split (taken_in_turn old.before (items_of old.pushed) (items_of (old.taken ++ x ∷ [])) law)) ∙ ap (list_any is_mark) (sym split),
        law,
      )

  pub nothing_left : (pushed taken : List (code_item.Item Z)) → Held 0 (λ (items : List (code_item.Item Z)). IsPrefix pushed (taken ++ items)) → IsPrefix (items_of pushed) (items_of taken)
  nothing_left pushed taken h = prefix_map item_of pushed taken (subst (IsPrefix pushed) (ap (λ l. taken ++ l) (nil_from_length h.0 h.1) ∙ append-nil taken) h.2)
