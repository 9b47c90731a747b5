-- Each step of an end keeps the rule of its lane.
use Rattle.std.proofs.Common.{if◌then◌else◌, ◌≡◌, ◌≢◌, ◌⊎◌, ℕ, zero, suc, ◌+◌, ◌≤◌, Bool, true, false, true≢false, List, [], ◌∷◌, ◌++◌, map, length, set, refl, sym, ap, subst, ◌∙◌, ⊎_elim, append_assoc, arith}
use Rattle.std.proofs.lemmas.List.{append-nil, map-append, length-append}
use mathlib.Core.List.{IsPrefix}
use mathlib.Core.Option.{some, some-ne-none}
use lib.ListN.{get_elem?}
use Rattle.crossbeam_queue.specs.Fifo.{Pushes, Pops, Forks, Merges, Learns}
use Rattle.crossbeam_queue.proofs.Lists.{at_set, at_snoc}
use Rattle.occ_types.specs.declared.limits.TheConstants.{MAX_NUMBER}
use Rattle.occ_queue.specs.declared.items.Item.{Item}
use Rattle.occ_queue.specs.declared.rules.Knowledge.{Knowledge}
use Rattle.occ_queue.specs.Items.{item_of, items_of}
use Rattle.occ_queue.specs.Lanes.{InTurn, AreOfOne, longer}
use Rattle.occ_queue.specs.Rule.{knowledge, hearing, Fits, Kept}
use Rattle.occ_queue.proofs.Beginnings.{unused_in_turn, prefix_refl, prefix_nil, prefix_more, prefix_length, prefix_both, longer_prefix, prefix_map}

module _ {Z : Type 0} where
  at_end : (l : List (Knowledge Z)) (a b : Knowledge Z) (j : ℕ) → get_elem? l j ≢ some b → get_elem? (l ++ a ∷ []) j ≡ some b → j ≡ length l
  at_end [] a b zero n e = refl
  at_end [] a b (suc j) n e = absurd (some-ne-none b (sym e))
  at_end (x ∷ xs) a b zero n e = absurd (n e)
  at_end (x ∷ xs) a b (suc j) n e = ap suc (at_end xs a b j n e)

  abbrev All : (ℕ → Knowledge Z → Type 0) → List (Knowledge Z) → Type 0
  All F views = (port : ℕ) (v : Knowledge Z) → get_elem? views port ≡ some v → F port v

  all_set : (F : ℕ → Knowledge Z → Type 0) (views : List (Knowledge Z)) (port : ℕ) (w : Knowledge Z) → F port w → ((j : ℕ) (u : Knowledge Z) → j ≢ port → get_elem? views j ≡ some u → F j u) → All F (set views port w)
  all_set F views port w mine others j u e = ⊎_elim (λ (x : (j ≡ port) × (w ≡ u)). subst (λ (y : ℕ × Knowledge Z). F y.0 y.1) (λ i. (sym x.0 i, x.1 i)) mine)
      (λ (x : (j ≢ port) × (get_elem? views j ≡ some u)). others j u x.0 x.1) (at_set views port j w u e)

  pub begins : Kept {Z = Z} [] (knowledge true true 0 [] [] ∷ [])
  begins = record {
    sender = 0;
    receiver = 0;
    before = 0;
    pushed = [];
    taken = [];
    whole = refl;
    in_turn = unused_in_turn 0 (omega arith);
    fits = all_set (Fits 0 0 0 [] []) (knowledge true true 0 [] [] ∷ []) 0 (knowledge true true 0 [] [])
        (record { begins = prefix_nil []; began = prefix_nil []; sends = λ _. (refl, refl, refl); takes = λ _. (refl, refl, refl) })
        (λ j u other e. absurd (other (at_end [] _ u j (λ x. some-ne-none u (sym x)) e)));
  }

  -- what a pass knows, after the list of what was pushed, or that of what was taken, has grown
  pushed_on : (sender receiver before : ℕ) (pushed taken : List (Item Z)) (x : Item Z) (port : ℕ) (u : Knowledge Z) → port ≢ sender
      → Fits sender receiver before pushed taken port u → Fits sender receiver before (pushed ++ x ∷ []) taken port u
  pushed_on sender receiver before pushed taken x port u other fits = record {
    begins = prefix_more u.pushed pushed (x ∷ []) fits.begins;
    began = fits.began;
    sends = λ may. absurd (other (fits.sends may).0);
    takes = fits.takes;
  }

  taken_on : (sender receiver before : ℕ) (pushed taken : List (Item Z)) (x : Item Z) (port : ℕ) (u : Knowledge Z) → port ≢ receiver
      → Fits sender receiver before pushed taken port u → Fits sender receiver before pushed (taken ++ x ∷ []) port u
  taken_on sender receiver before pushed taken x port u other fits = record {
    begins = fits.begins;
    began = prefix_more u.taken taken (x ∷ []) fits.began;
    sends = fits.sends;
    takes = λ may. absurd (other (fits.takes may).0);
  }

  pub sends : (n port : ℕ) (v : Knowledge Z) (x : Item Z) → v.sends ≡ true → v.takes ≡ false → InTurn v.before (items_of (v.pushed ++ x ∷ []))
      → Pushes Kept n port v x (λ w. w ≡ knowledge v.sends v.takes v.before (v.pushed ++ x ∷ []) v.taken)
  sends n port v x may takes in_turn items views _ kept at =
      let mine = kept.fits port v at in
      let here = mine.sends may in
      let pushed = kept.pushed ++ x ∷ [] in
      let w : Knowledge Z = knowledge v.sends v.takes v.before (v.pushed ++ x ∷ []) v.taken in
      let same : v.pushed ++ x ∷ [] ≡ pushed = ap (λ l. l ++ x ∷ []) here.1 in (
        w,
        record {
          sender = kept.sender;
          receiver = kept.receiver;
          before = kept.before;
          pushed = pushed;
          taken = kept.taken;
          whole = ap (λ l. l ++ x ∷ []) kept.whole ∙ append_assoc kept.taken items (x ∷ []);
          in_turn = subst (λ (k : ℕ × List (Item Z)). InTurn k.0 (items_of k.1)) (λ i. (here.2 i, same i)) in_turn;
          fits = all_set (Fits kept.sender kept.receiver kept.before pushed kept.taken) views port w
              (record {
                begins = subst (IsPrefix (v.pushed ++ x ∷ [])) same (prefix_refl (v.pushed ++ x ∷ []));
                began = mine.began;
                sends = λ _. (here.0, same, here.2);
                takes = mine.takes;
              })
              (λ j u other e. pushed_on kept.sender kept.receiver kept.before kept.pushed kept.taken x j u (λ is. other (is ∙ sym here.0)) (kept.fits j u e));
        },
        refl,
      )

  of_one : (sender receiver before : ℕ) (pushed taken : List (Item Z)) (items : List (Item Z)) (port : ℕ) (v : Knowledge Z) → pushed ≡ taken ++ items → InTurn before (items_of pushed) → v.before ≡ before
      → Fits sender receiver before pushed taken port v → AreOfOne v.before (items_of v.pushed) (items_of v.taken)
  of_one sender receiver before pushed taken items port v whole in_turn same fits = record {
    all = items_of pushed;
    in_turn = subst (λ b. InTurn b (items_of pushed)) (sym same) in_turn;
    begins = prefix_map item_of v.pushed pushed fits.begins;
    began = prefix_map item_of v.taken pushed (subst (IsPrefix v.taken) (sym whole) (prefix_more v.taken taken items fits.began));
  }

  pub takes : (port : ℕ) (v : Knowledge Z) → v.sends ≡ false → v.takes ≡ true
      → Pops Kept port v (λ x w. (w ≡ knowledge v.sends v.takes v.before v.pushed (v.taken ++ x ∷ [])) × AreOfOne v.before (items_of v.pushed) (items_of (v.taken ++ x ∷ [])))
  takes port v sends may x items views kept at =
      let mine = kept.fits port v at in
      let here = mine.takes may in
      let taken = kept.taken ++ x ∷ [] in
      let w : Knowledge Z = knowledge v.sends v.takes v.before v.pushed (v.taken ++ x ∷ []) in
      let same : v.taken ++ x ∷ [] ≡ taken = ap (λ l. l ++ x ∷ []) here.1 in
      let whole : kept.pushed ≡ taken ++ items = kept.whole ∙ sym (append_assoc kept.taken (x ∷ []) items) in
      let fits : Fits kept.sender kept.receiver kept.before kept.pushed taken port w = record {
        begins = mine.begins;
        began = subst (IsPrefix (v.taken ++ x ∷ [])) same (prefix_refl (v.taken ++ x ∷ []));
        sends = mine.sends;
        takes = λ _. (here.0, same, here.2);
      } in (
        w,
        record {
          sender = kept.sender;
          receiver = kept.receiver;
          before = kept.before;
          pushed = kept.pushed;
          taken = taken;
          whole = whole;
          in_turn = kept.in_turn;
          fits = all_set (Fits kept.sender kept.receiver kept.before kept.pushed taken) views port w fits
              (λ j u other e. taken_on kept.sender kept.receiver kept.before kept.pushed kept.taken x j u (λ is. other (is ∙ sym here.0)) (kept.fits j u e));
        },
        (refl, of_one kept.sender kept.receiver kept.before kept.pushed taken items port w whole kept.in_turn here.2 fits),
      )

  -- the ends part, and the lane begins behind a number from then on
  pub parts : (port : ℕ) (v : Knowledge Z) (last : ℕ) → last ≤ MAX_NUMBER → v ≡ knowledge true true 0 [] [] → Forks Kept port v (knowledge true false last v.pushed v.taken) (knowledge false true last v.pushed v.taken)
  parts port v last within first items views kept at =
      let sends : v.sends ≡ true = ap (λ (k : Knowledge Z). k.sends) first in
      let takes : v.takes ≡ true = ap (λ (k : Knowledge Z). k.takes) first in
      let mine = kept.fits port v at in
      let none : kept.pushed ≡ [] = sym (mine.sends sends).1 ∙ ap (λ (k : Knowledge Z). k.pushed) first in
      let l : Knowledge Z = knowledge true false last v.pushed v.taken in
      let r : Knowledge Z = knowledge false true last v.pushed v.taken in
      let vs : List (Knowledge Z) = set views port l in
      let Old : ℕ → Knowledge Z → Type 0 = λ j u. Fits kept.sender kept.receiver last kept.pushed kept.taken j u × (u.takes ≢ true) in
      let old : All Old vs = all_set Old views port l (
        record {
          begins = mine.begins;
          began = mine.began;
          sends = λ _. ((mine.sends sends).0, (mine.sends sends).1, refl);
          takes = λ (p : false ≡ true). absurd (true≢false (sym p));
        },
        λ p. true≢false (sym p),
      )
      (λ j u other e.
      let fits = kept.fits j u e in
      let idle = λ (p : u.takes ≡ true). other ((fits.takes p).0 ∙ sym (mine.takes takes).0) in (
        record {
          begins = fits.begins;
          began = fits.began;
          sends = λ p. absurd (other ((fits.sends p).0 ∙ sym (mine.sends sends).0));
          takes = λ p. absurd (idle p);
        },
        idle,
      )) in
      record {
        sender = kept.sender;
        receiver = length vs;
        before = last;
        pushed = kept.pushed;
        taken = kept.taken;
        whole = kept.whole;
        in_turn = subst (λ (l : List (Item Z)). InTurn last (items_of l)) (sym none) (unused_in_turn last within);
        fits = λ j u e. ⊎_elim
            (λ x. let fits = (old j u x).0 in record { begins = fits.begins; began = fits.began; sends = fits.sends; takes = λ p. absurd ((old j u x).1 p) })
            (λ (is : r ≡ u). subst (λ y. Fits kept.sender (length vs) last kept.pushed kept.taken j y) is (record {
              begins = mine.begins;
              began = mine.began;
              sends = λ (p : false ≡ true). absurd (true≢false (sym p));
              takes = λ _. (at_end vs r u j (λ x. (old j u x).1 (ap (λ (y : Knowledge Z). y.takes) (sym is))) e, (mine.takes takes).1, refl);
            }))
            (at_snoc vs r u j e);
      }

  -- another pass that knows as much
  pub tells : (port : ℕ) (v : Knowledge Z) → Forks Kept port v v (knowledge false false v.before v.pushed v.taken)
  tells port v items views kept at =
      let mine = kept.fits port v at in
      let r : Knowledge Z = knowledge false false v.before v.pushed v.taken in
      let vs : List (Knowledge Z) = set views port v in
      let F : ℕ → Knowledge Z → Type 0 = Fits kept.sender kept.receiver kept.before kept.pushed kept.taken in
      let old : All F vs = all_set F views port v mine (λ j u other e. kept.fits j u e) in
      record {
        sender = kept.sender;
        receiver = kept.receiver;
        before = kept.before;
        pushed = kept.pushed;
        taken = kept.taken;
        whole = kept.whole;
        in_turn = kept.in_turn;
        fits = λ j u e. ⊎_elim (λ x. old j u x)
            (λ (is : r ≡ u). subst (λ y. F j y) is (record {
              begins = mine.begins;
              began = mine.began;
              sends = λ (p : false ≡ true). absurd (true≢false (sym p));
              takes = λ (p : false ≡ true). absurd (true≢false (sym p));
            }))
            (at_snoc vs r u j e);
      }

  heard : (b : Bool) (mine theirs all : List (Item Z)) → IsPrefix mine all → IsPrefix theirs all → IsPrefix (if b then mine else longer mine theirs) all
  heard true mine theirs all p q = p
  heard false mine theirs all p q = longer_prefix mine theirs all p q

  own : (b : Bool) (mine theirs all : List (Item Z)) → b ≡ true → mine ≡ all → (if b then mine else longer mine theirs) ≡ all
  own true mine theirs all p q = q
  own false mine theirs all p q = absurd (true≢false (sym p))

  pub hears : (port : ℕ) (v : Knowledge Z) (other : ℕ) (u : Knowledge Z) → Merges Kept port v other u (hearing v u) (knowledge false false 0 [] [])
  hears port v other u items views kept at apart at' =
      let mine = kept.fits port v at in
      let both : Knowledge Z = hearing v u in
      let vs : List (Knowledge Z) = set views port both in
      let F : ℕ → Knowledge Z → Type 0 = Fits kept.sender kept.receiver kept.before kept.pushed kept.taken in
      let was : get_elem? views other ≡ some u = ⊎_elim (λ x. absurd (apart x.0)) (λ x. x.1) (at_set views port other both u at') in
      let theirs = kept.fits other u was in
      let now : All F vs = all_set F views port both (record {
        begins = heard v.sends v.pushed u.pushed kept.pushed mine.begins theirs.begins;
        began = heard v.takes v.taken u.taken kept.taken mine.began theirs.began;
        sends = λ p. ((mine.sends p).0, own v.sends v.pushed u.pushed kept.pushed p (mine.sends p).1, (mine.sends p).2);
        takes = λ p. ((mine.takes p).0, own v.takes v.taken u.taken kept.taken p (mine.takes p).1, (mine.takes p).2);
      }) (λ j y _ e. kept.fits j y e) in
      record {
        sender = kept.sender;
        receiver = kept.receiver;
        before = kept.before;
        pushed = kept.pushed;
        taken = kept.taken;
        whole = kept.whole;
        in_turn = kept.in_turn;
        fits = all_set F vs other (knowledge false false 0 [] []) (record {
          begins = prefix_nil kept.pushed;
          began = prefix_nil kept.taken;
          sends = λ (p : false ≡ true). absurd (true≢false (sym p));
          takes = λ (p : false ≡ true). absurd (true≢false (sym p));
        }) (λ j y _ e. now j y e);
      }

  pub learns : (port : ℕ) (v : Knowledge Z) → (v.sends ≡ true) ⊎ (v.takes ≡ true) → Learns Kept port v (λ items. AreOfOne v.before (items_of v.pushed) (items_of v.taken) × (v.sends ≡ true → IsPrefix (items_of v.taken) (items_of v.pushed)))
  learns port v is_end items views kept at =
      let mine = kept.fits port v at in (
        of_one kept.sender kept.receiver kept.before kept.pushed kept.taken items port v kept.whole kept.in_turn (⊎_elim (λ p. (mine.sends p).2) (λ p. (mine.takes p).2) is_end) mine,
        (λ may. prefix_map item_of v.taken v.pushed (subst (IsPrefix v.taken) (sym ((mine.sends may).1 ∙ kept.whole)) (prefix_more v.taken kept.taken items mine.began))),
      )

  -- what is held, with what is known as taken, is no more than what the sender pushed
  pub held : (port : ℕ) (v : Knowledge Z) → v.sends ≡ true → Learns Kept port v (λ items. length v.taken + length items ≤ length v.pushed)
  held port v may items views kept at =
      let mine = kept.fits port v at in
      let all : length v.pushed ≡ length (kept.taken ++ items) = ap length ((mine.sends may).1 ∙ kept.whole) in
      let sum = length-append kept.taken items in
      let some_taken = prefix_length v.taken kept.taken mine.began in
      omega arith

  -- what is known as pushed is among what the receiver took, followed by what is held
  pub left : (port : ℕ) (v : Knowledge Z) → v.takes ≡ true → Learns Kept port v (λ items. IsPrefix v.pushed (v.taken ++ items))
  left port v may items views kept at =
      let mine = kept.fits port v at in
      subst (λ l. IsPrefix v.pushed (l ++ items)) (sym (mine.takes may).1) (subst (IsPrefix v.pushed) kept.whole mine.begins)

  -- the pass of the sender takes in that of the receiver
  pub joins : (port : ℕ) (v : Knowledge Z) (other : ℕ) (u : Knowledge Z) → v.sends ≡ true → u.takes ≡ true
      → Merges Kept port v other u (knowledge v.sends u.takes v.before v.pushed u.taken) (knowledge false false 0 [] [])
  joins port v other u may takes items views kept at apart at' =
      let mine = kept.fits port v at in
      let both : Knowledge Z = knowledge v.sends u.takes v.before v.pushed u.taken in
      let vs : List (Knowledge Z) = set views port both in
      let F : ℕ → Knowledge Z → Type 0 = Fits kept.sender port kept.before kept.pushed kept.taken in
      let G : ℕ → Knowledge Z → Type 0 = λ j y. j ≢ other → F j y in
      let was : get_elem? views other ≡ some u = ⊎_elim (λ x. absurd (apart x.0)) (λ x. x.1) (at_set views port other both u at') in
      let theirs = kept.fits other u was in
      let now : All G vs = all_set G views port both
      (λ _. record { begins = mine.begins; began = theirs.began; sends = mine.sends; takes = λ p. (refl, (theirs.takes p).1, (mine.sends may).2) })
      (λ j y _ e far. let fits = kept.fits j y e in record {
        begins = fits.begins;
        began = fits.began;
        sends = fits.sends;
        takes = λ p. absurd (far ((fits.takes p).0 ∙ sym (theirs.takes takes).0));
      }) in
      record {
        sender = kept.sender;
        receiver = port;
        before = kept.before;
        pushed = kept.pushed;
        taken = kept.taken;
        whole = kept.whole;
        in_turn = kept.in_turn;
        fits = all_set F vs other (knowledge false false 0 [] []) (record {
          begins = prefix_nil kept.pushed;
          began = prefix_nil kept.taken;
          sends = λ (p : false ≡ true). absurd (true≢false (sym p));
          takes = λ (p : false ≡ true). absurd (true≢false (sym p));
        }) (λ j y far e. now j y e far);
      }

  -- what a pass knows that sends and takes: all that was pushed is what was taken, followed by what is held
  pub whole : (port : ℕ) (v : Knowledge Z) → v.sends ≡ true → v.takes ≡ true → Learns Kept port v (λ items. v.pushed ≡ v.taken ++ items)
  whole port v sends may items views kept at =
      let mine = kept.fits port v at in
      (mine.sends sends).1 ∙ kept.whole ∙ ap (λ l. l ++ items) (sym (mine.takes may).1)

  -- and what it takes is among what was pushed
  pub rests : (port : ℕ) (v : Knowledge Z) → v.sends ≡ true → v.takes ≡ true
      → Pops Kept port v (λ x w. (w ≡ knowledge v.sends v.takes v.before v.pushed (v.taken ++ x ∷ [])) × IsPrefix (v.taken ++ x ∷ []) v.pushed)
  rests port v sends may x items views kept at =
      let mine = kept.fits port v at in
      let here = mine.takes may in
      let taken = kept.taken ++ x ∷ [] in
      let w : Knowledge Z = knowledge v.sends v.takes v.before v.pushed (v.taken ++ x ∷ []) in
      let same : v.taken ++ x ∷ [] ≡ taken = ap (λ l. l ++ x ∷ []) here.1 in
      let before = whole port v sends may (x ∷ items) views kept at in (
        w,
        record {
          sender = kept.sender;
          receiver = kept.receiver;
          before = kept.before;
          pushed = kept.pushed;
          taken = taken;
          whole = kept.whole ∙ sym (append_assoc kept.taken (x ∷ []) items);
          in_turn = kept.in_turn;
          fits = all_set (Fits kept.sender kept.receiver kept.before kept.pushed taken) views port w
              (record {
                begins = mine.begins;
                began = subst (IsPrefix (v.taken ++ x ∷ [])) same (prefix_refl (v.taken ++ x ∷ []));
                sends = mine.sends;
                takes = λ _. (here.0, same, here.2);
              })
              (λ j u other e. taken_on kept.sender kept.receiver kept.before kept.pushed kept.taken x j u (λ is. other (is ∙ sym here.0)) (kept.fits j u e));
        },
        (refl, (items, append_assoc v.taken (x ∷ []) items ∙ sym before)),
      )
