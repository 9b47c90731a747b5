-- What a lane has left, as it is taken out.
use Rattle.std.proofs.Common.{◌≡◌, ℕ, suc, ◌+◌, ◌-◌, ◌<◌, ◌≤◌, true, List, [], ◌∷◌, ◌++◌, length, sym, ap, subst, ◌∙◌, arith, append_assoc}
use Rattle.std.proofs.lemmas.List.{append-nil, map-append, length-map, length-append, length_push, nil_from_length}
use mathlib.Core.List.{IsPrefix}
use Rattle.crossbeam_queue.specs.Fifo.{Held}
use Rattle.occ_model.specs.Event.{Item}
use Rattle.occ_queue.specs.declared.items.Item as code_item
use Rattle.occ_queue.specs.declared.rules.Knowledge.{Knowledge}
use Rattle.occ_queue.specs.Items.{item_of, items_of}
use Rattle.occ_queue.specs.Rule.{knowledge}
use Rattle.occ_queue.proofs.Beginnings.{prefix_length}

module _ {Z : Type 0} where
  -- a pass that sends and takes: it knows all that was pushed, and has taken these too
  abbrev pub AllKnown : List Item → List Item → List (code_item.Item Z) → Knowledge Z → Type 0
  AllKnown pushed taken left v = (v.sends ≡ true) × (v.takes ≡ true) × (items_of v.pushed ≡ pushed) × (items_of v.taken ≡ taken ++ items_of left)

  -- where the two ends came together, and nothing is taken out yet
  pub known_first : (v u w : Knowledge Z) (pushed taken : List Item) (left : List (code_item.Item Z)) → v.sends ≡ true → u.takes ≡ true → items_of v.pushed ≡ pushed → items_of u.taken ≡ taken → left ≡ []
      → w ≡ knowledge v.sends u.takes v.before v.pushed u.taken → AllKnown pushed taken left w
  known_first v u w pushed taken left may takes all some none is = (
    ap (λ (k : Knowledge Z). k.sends) is ∙ may,
    ap (λ (k : Knowledge Z). k.takes) is ∙ takes,
    ap (λ (k : Knowledge Z). items_of k.pushed) is ∙ all,
    ap (λ (k : Knowledge Z). items_of k.taken) is ∙ some ∙ sym (append-nil taken) ∙ ap (λ (l : List (code_item.Item Z)). taken ++ items_of l) (sym none),
  )

  known_more : (v w : Knowledge Z) (x : code_item.Item Z) (pushed taken : List Item) (left : List (code_item.Item Z)) → AllKnown pushed taken left v
      → w ≡ knowledge v.sends v.takes v.before v.pushed (v.taken ++ x ∷ []) → AllKnown pushed taken (left ++ x ∷ []) w
  known_more v w x pushed taken left known is = subst (AllKnown pushed taken (left ++ x ∷ [])) (sym is) (
    known.0,
    known.1,
    known.2,
    map-append item_of v.taken (x ∷ [])
        ∙ ap (λ l. l ++ item_of x ∷ []) known.3
        ∙ append_assoc taken (items_of left) (item_of x ∷ [])
        ∙ ap (λ l. taken ++ l) (sym (map-append item_of left (x ∷ []))),
  )

  pub grown : (v w : Knowledge Z) (x : code_item.Item Z) (pushed taken : List Item) (left after : List (code_item.Item Z)) → AllKnown pushed taken left v
      → w ≡ knowledge v.sends v.takes v.before v.pushed (v.taken ++ x ∷ []) → after ≡ left ++ x ∷ [] → AllKnown pushed taken after w
  grown v w x pushed taken left after known is more =
      subst (λ (l : List (code_item.Item Z)). AllKnown pushed taken l w) (sym more) (known_more v w x pushed taken left known is)

  -- there is room for what is taken out
  pub known_room : (v : Knowledge Z) (x : code_item.Item Z) (pushed taken : List Item) (left : List (code_item.Item Z)) → AllKnown pushed taken left v → IsPrefix (v.taken ++ x ∷ []) v.pushed
      → length taken + length left < length pushed
  known_room v x pushed taken left known among =
      let below = prefix_length (v.taken ++ x ∷ []) v.pushed among in
      let more = length_push v.taken x in
      let some : length v.taken ≡ length (taken ++ items_of left) = sym (length-map v.taken (item_of {Z = Z})) ∙ ap length known.3 in
      let sum = length-append taken (items_of left) in
      let count = length-map left (item_of {Z = Z}) in
      let all : length v.pushed ≡ length pushed = sym (length-map v.pushed (item_of {Z = Z})) ∙ ap length known.2 in
      omega arith

  -- and less is left then
  pub less_left : (v w : Knowledge Z) (x : code_item.Item Z) → w ≡ knowledge v.sends v.takes v.before v.pushed (v.taken ++ x ∷ []) → IsPrefix (v.taken ++ x ∷ []) v.pushed
      → length w.pushed - length w.taken < length v.pushed - length v.taken
  less_left v w x is among =
      let below = prefix_length (v.taken ++ x ∷ []) v.pushed among in
      let more = length_push v.taken x in
      let all : length w.pushed ≡ length v.pushed = ap (λ (k : Knowledge Z). length k.pushed) is in
      let one : length w.taken ≡ length (v.taken ++ x ∷ []) = ap (λ (k : Knowledge Z). length k.taken) is in
      omega arith

  -- where nothing is held all was taken out
  pub known_last : (v : Knowledge Z) (pushed taken : List Item) (left : List (code_item.Item Z)) → AllKnown pushed taken left v → Held 0 (λ (items : List (code_item.Item Z)). v.pushed ≡ v.taken ++ items)
      → pushed ≡ taken ++ items_of left
  known_last v pushed taken left known held =
      sym known.2 ∙ ap items_of (held.2 ∙ ap (λ l. v.taken ++ l) (nil_from_length held.0 held.1) ∙ append-nil v.taken) ∙ known.3
