-- What several prints push together.
use Rattle.std.proofs.Common.{◌≡◌, ℕ, zero, suc, ◌+◌, ◌<◌, add-one, List, [], ◌∷◌, ◌++◌, length, map, take, drop, get_or, Some, None, Result, Ok, Err, refl, sym, ap, subst, ◌∙◌, append_assoc, take-append-drop}
use Rattle.std.proofs.lemmas.List.{append-nil, map-append, take_more, drop_more}
use Rattle.std.proofs.lemmas.List.Concat.{flat_map-append, flat_map_single}
use Rattle.std.proofs.KnownBytes.{Appends-nil, Appends-trans}
use Rattle.std.specs.declared.option.Option.{Option}
use Rattle.std.specs.Prelude.{slice_get}
use Rattle.std.specs.Iterator.{YieldsFirstBy}
use Rattle.std.specs.Option.{option_to_list}
use Rattle.std.specs.Result.{IsErrAnd}
use Rattle.std.specs.List.{flat_map, join_with_byte}
use Rattle.occ_text.specs.declared.faults.WriteFault.{WriteFault}
use Rattle.occ_text.specs.Sending.{Sends}
use Rattle.occ_text.specs.Line.{lines_text}
use Rattle.occ_text.specs.Printing.{Pushed, PushedFront, PrintGives}

-- words behind a word, each with a space before it
pub joined : {X : Type 0} (f : X → List ℕ) (word : List ℕ) (xs : List X) → join_with_byte 32 (word ∷ map f xs) ≡ word ++ flat_map (λ x. 32 ∷ f x) xs
joined f word [] = sym (append-nil word)
joined f word (x ∷ xs) = ap (λ (l : List ℕ). word ++ 32 ∷ l) (joined f (f x) xs)

-- words behind a line
pub joined_more : {X : Type 0} (f : X → List ℕ) (new mid front name word : List ℕ) (xs ys : List X) → new ≡ mid ++ flat_map (λ x. 32 ∷ f x) ys → ys ≡ xs → mid ≡ front ++ 32 ∷ (name ++ 32 ∷ word)
    → new ≡ front ++ 32 ∷ (name ++ 32 ∷ join_with_byte 32 (word ∷ map f xs))
joined_more f new mid front name word xs ys is same begun =
    let more : List ℕ = flat_map (λ x. 32 ∷ f x) xs in
    is ∙ ap (λ l. mid ++ flat_map (λ x. 32 ∷ f x) l) same ∙ ap (λ (l : List ℕ). l ++ more) begun
    ∙ append_assoc front (32 ∷ (name ++ 32 ∷ word)) more
    ∙ ap (λ (l : List ℕ). front ++ 32 ∷ l) (append_assoc name (32 ∷ word) more ∙ ap (λ (l : List ℕ). name ++ 32 ∷ l) (sym (joined f word xs)))

-- bytes pushed after others
pub Sends-then : (a b c : Option (List ℕ)) (old mid new s t : List ℕ) → Sends a b (old ++ s) mid → Sends b c (mid ++ t) new → Sends a c (old ++ (s ++ t)) new
Sends-then a b c old mid new s t h k = record {
  sent = h.sent ++ k.sent;
  written = Appends-trans a b c h.sent k.sent h.written k.written;
  whole = sym (append_assoc old s t) ∙ ap (λ (l : List ℕ). l ++ t) h.whole ∙ append_assoc h.sent mid t ∙ ap (λ (l : List ℕ). h.sent ++ l) k.whole ∙ sym (append_assoc h.sent k.sent new);
}

-- nothing was pushed
pub Pushed-nothing : (a : Option (List ℕ)) (old : List ℕ) → Pushed a a old old []
Pushed-nothing a old = record { sends = record { sent = []; written = Appends-nil a; whole = append-nil old }; few = λ h. h }

pub Pushed-then : (a b c : Option (List ℕ)) (old mid new s t : List ℕ) → Pushed a b old mid s → Pushed b c mid new t → Pushed a c old new (s ++ t)
Pushed-then a b c old mid new s t h k = record { sends = Sends-then a b c old mid new s t h.sends k.sends; few = λ l. k.few (h.few l) }

-- nothing of a text was pushed
pub front_none : (a : Option (List ℕ)) (old text : List ℕ) → PushedFront a a old old text
front_none a old text = record { front = []; rest = text; whole = refl; sends = record { sent = []; written = Appends-nil a; whole = append-nil old } }

-- a beginning of what comes next, behind what was pushed
pub front_then : (a b c : Option (List ℕ)) (old mid new s t : List ℕ) → Pushed a b old mid s → PushedFront b c mid new t → PushedFront a c old new (s ++ t)
front_then a b c old mid new s t h k = record {
  front = s ++ k.front;
  rest = k.rest;
  whole = ap (λ (l : List ℕ). s ++ l) k.whole ∙ sym (append_assoc s k.front k.rest);
  sends = Sends-then a b c old mid new s k.front h.sends k.sends;
}

-- a beginning of a part is one of the whole
pub front_more : (a b : Option (List ℕ)) (old new s t : List ℕ) → PushedFront a b old new s → PushedFront a b old new (s ++ t)
front_more a b old new s t h = record {
  front = h.front;
  rest = h.rest ++ t;
  whole = ap (λ (l : List ℕ). l ++ t) h.whole ∙ append_assoc h.front h.rest t;
  sends = h.sends;
}

-- what the prints give; none has a value
abbrev pub Printed : Type 0
Printed = Result (Unit {0}) WriteFault

-- a print that failed, by the exit of a `?`
pub failed : (Q : WriteFault → Type 0) (r : Printed) (a b : Option (List ℕ)) (old new text : List ℕ) → IsErrAnd r Q → PushedFront a b old new text → PrintGives r a b old new text
failed Q (Ok done) a b old new text is h = absurd is
failed Q (Err fault) a b old new text is h = h

-- memory was refused before the first push
pub printed_nothing : (Q : WriteFault → Type 0) (r : Printed) (a : Option (List ℕ)) (old text : List ℕ) → IsErrAnd r Q → PrintGives r a a old old text
printed_nothing Q r a old text is = failed Q r a a old old text is (front_none a old text)

-- a print behind what was pushed
printed_then : (r : Printed) (a b c : Option (List ℕ)) (old mid new s t : List ℕ) → Pushed a b old mid s → PrintGives r b c mid new t → PrintGives r a c old new (s ++ t)
printed_then (Ok done) a b c old mid new s t h k = Pushed-then a b c old mid new s t h k
printed_then (Err fault) a b c old mid new s t h k = front_then a b c old mid new s t h k

-- ---- the same, of lines

pub lines_text-append : (ls ms : List (List ℕ)) → lines_text (ls ++ ms) ≡ lines_text ls ++ lines_text ms
lines_text-append ls ms = flat_map-append (λ line. line ++ 10 ∷ []) ls ms

pub lines_then : (r : Printed) (a b c : Option (List ℕ)) (old mid new : List ℕ) (ls ms : List (List ℕ)) → Pushed a b old mid (lines_text ls) → PrintGives r b c mid new (lines_text ms) → PrintGives r a c old new (lines_text (ls ++ ms))
lines_then r a b c old mid new ls ms h k =
    subst (PrintGives r a c old new) (sym (lines_text-append ls ms)) (printed_then r a b c old mid new (lines_text ls) (lines_text ms) h k)

-- the same lines, said otherwise
pub lines_same : (r : Printed) (a b : Option (List ℕ)) (old new : List ℕ) (ls ms : List (List ℕ)) → ls ≡ ms → PrintGives r a b old new (lines_text ls) → PrintGives r a b old new (lines_text ms)
lines_same r a b old new ls ms is h = subst (λ l. PrintGives r a b old new (lines_text l)) is h

-- a line that was pushed, and lines behind it
pub line_then : (r : Printed) (a b c : Option (List ℕ)) (old mid new line bytes : List ℕ) (ms : List (List ℕ)) → bytes ≡ line → Pushed a b old mid (lines_text (bytes ∷ [])) → PrintGives r b c mid new (lines_text ms) → PrintGives r a c old new (lines_text (line ∷ ms))
line_then r a b c old mid new line bytes ms is h k =
    lines_then r a b c old mid new (line ∷ []) ms (subst (λ l. Pushed a b old mid (lines_text (l ∷ []))) is h) k

-- a beginning of lines, behind others
pub front_behind : (a b c : Option (List ℕ)) (old mid new : List ℕ) (ls ms : List (List ℕ)) → Pushed a b old mid (lines_text ls) → PushedFront b c mid new (lines_text ms) → PushedFront a c old new (lines_text (ls ++ ms))
front_behind a b c old mid new ls ms h k = subst (PushedFront a c old new) (sym (lines_text-append ls ms)) (front_then a b c old mid new (lines_text ls) (lines_text ms) h k)

pub front_same : (a b : Option (List ℕ)) (old new : List ℕ) (ls ms : List (List ℕ)) → ls ≡ ms → PushedFront a b old new (lines_text ls) → PushedFront a b old new (lines_text ms)
front_same a b old new ls ms is h = subst (λ l. PushedFront a b old new (lines_text l)) is h

-- a beginning of lines, with others to come
pub front_before : (a b : Option (List ℕ)) (old new : List ℕ) (ls ms : List (List ℕ)) → PushedFront a b old new (lines_text ls) → PushedFront a b old new (lines_text (ls ++ ms))
front_before a b old new ls ms h = subst (PushedFront a b old new) (sym (lines_text-append ls ms)) (front_more a b old new (lines_text ls) (lines_text ms) h)

-- the same of a line, said otherwise
pub front_line : (a b : Option (List ℕ)) (old new line bytes : List ℕ) (ms : List (List ℕ)) → bytes ≡ line → PushedFront a b old new (lines_text (bytes ∷ [])) → PushedFront a b old new (lines_text (line ∷ ms))
front_line a b old new line bytes ms is h = front_before a b old new (line ∷ []) ms (subst (λ l. PushedFront a b old new (lines_text (l ∷ []))) is h)

-- a beginning of lines, behind others and with others to come
pub front_amid : (a b c : Option (List ℕ)) (old mid new : List ℕ) (ls ms ns : List (List ℕ)) → Pushed a b old mid (lines_text ls) → PushedFront b c mid new (lines_text ms) → PushedFront a c old new (lines_text (ls ++ ms ++ ns))
front_amid a b c old mid new ls ms ns h k = front_before a c old new (ls ++ ms) ns (front_behind a b c old mid new ls ms h k)

-- the lines of some values, pushed one value after another
module _ {X Y : Type 0} (f : Y → List (List ℕ)) (view : X → Y) where
  abbrev lines_of : List X → List (List ℕ)
  lines_of xs = flat_map f (map view xs)

  lines_of-append : (xs ys : List X) → lines_of (xs ++ ys) ≡ lines_of xs ++ lines_of ys
  lines_of-append xs ys = ap (flat_map f) (map-append view xs ys) ∙ flat_map-append f (map view xs) (map view ys)

  lines_of-more : (xs : List X) (i : ℕ) (x : X) → i < length xs → x ≡ get_or xs i x → lines_of (take (i + 1) xs) ≡ lines_of (take i xs) ++ f (view x)
  lines_of-more xs i x lt is =
      ap lines_of (take_more xs i x lt ∙ ap (λ y. take i xs ++ y ∷ []) (sym is))
      ∙ lines_of-append (take i xs) (x ∷ []) ∙ ap (λ l. lines_of (take i xs) ++ l) (append-nil (f (view x)))

  lines_of-at : (xs : List X) (i : ℕ) (x : X) → i < length xs → x ≡ get_or xs i x → lines_of xs ≡ lines_of (take i xs) ++ f (view x) ++ lines_of (drop (i + 1) xs)
  lines_of-at xs i x lt is =
      ap lines_of (sym (take-append-drop i xs) ∙ ap (λ l. take i xs ++ l) (drop_more xs i x lt ∙ ap (λ y. y ∷ drop (i + 1) xs) (sym is)))
      ∙ lines_of-append (take i xs) (x ∷ drop (i + 1) xs) ∙ sym (append_assoc (lines_of (take i xs)) (f (view x)) (lines_of (drop (i + 1) xs)))

  -- the lines of one more value
  pub loop_more : (a b c : Option (List ℕ)) (old mid new : List ℕ) (xs : List X) (i : ℕ) (x : X) → i < length xs → x ≡ get_or xs i x
      → Pushed a b old mid (lines_text (flat_map f (map view (take i xs)))) → Pushed b c mid new (lines_text (f (view x)))
      → Pushed a c old new (lines_text (flat_map f (map view (take (i + 1) xs))))
  loop_more a b c old mid new xs i x lt is h k =
      subst (λ l. Pushed a c old new (lines_text l)) (sym (lines_of-more xs i x lt is)) (lines_then (Ok tt) a b c old mid new (lines_of (take i xs)) (f (view x)) h k)

  -- a beginning of the lines, up to a value
  pub loop_front : (a b c : Option (List ℕ)) (old mid new : List ℕ) (xs : List X) (i : ℕ) (x : X) → i < length xs → x ≡ get_or xs i x
      → Pushed a b old mid (lines_text (flat_map f (map view (take i xs)))) → PushedFront b c mid new (lines_text (f (view x)))
      → PushedFront a c old new (lines_text (flat_map f (map view xs)))
  loop_front a b c old mid new xs i x lt is h k =
      subst (λ l. PushedFront a c old new (lines_text l)) (sym (lines_of-at xs i x lt is))
      (front_amid a b c old mid new (lines_of (take i xs)) (f (view x)) (lines_of (drop (i + 1) xs)) h k)

-- the same, where each value has one line
module _ {X Y : Type 0} (line : Y → List ℕ) (view : X → Y) where
  abbrev alone : Y → List (List ℕ)
  alone y = line y ∷ []

  one_each : (xs : List X) → flat_map alone (map view xs) ≡ map line (map view xs)
  one_each xs = flat_map_single line (map view xs)

  pub each_more : (a b c : Option (List ℕ)) (old mid new : List ℕ) (xs : List X) (i : ℕ) (x : X) → i < length xs → x ≡ get_or xs i x
      → Pushed a b old mid (lines_text (map line (map view (take i xs)))) → Pushed b c mid new (lines_text (line (view x) ∷ []))
      → Pushed a c old new (lines_text (map line (map view (take (i + 1) xs))))
  each_more a b c old mid new xs i x lt is h k =
      subst (λ l. Pushed a c old new (lines_text l)) (one_each (take (i + 1) xs))
      (loop_more alone view a b c old mid new xs i x lt is (subst (λ l. Pushed a b old mid (lines_text l)) (sym (one_each (take i xs))) h) k)

  pub each_front : (a b c : Option (List ℕ)) (old mid new : List ℕ) (xs : List X) (i : ℕ) (x : X) → i < length xs → x ≡ get_or xs i x
      → Pushed a b old mid (lines_text (map line (map view (take i xs)))) → PushedFront b c mid new (lines_text (line (view x) ∷ []))
      → PushedFront a c old new (lines_text (map line (map view xs)))
  each_front a b c old mid new xs i x lt is h k =
      subst (λ l. PushedFront a c old new (lines_text l)) (one_each xs)
      (loop_front alone view a b c old mid new xs i x lt is (subst (λ l. Pushed a b old mid (lines_text l)) (sym (one_each (take i xs))) h) k)

-- the lines of the first of some values were pushed, and the others are left
pub record LinesLeft {Y : Type 0} (f : Y → List (List ℕ)) (all left : List Y) (a b : Option (List ℕ)) (old new : List ℕ) : Type 0 where
  pub done : List (List ℕ)
  pub whole : flat_map f all ≡ done ++ flat_map f left
  pub pushed : Pushed a b old new (lines_text done)

-- an iterator gives the values one by one
module _ {Y S A : Type 0} (f : Y → List (List ℕ)) (all : List Y) (view : A → Y) (left : S → List Y) where
  -- no value was gone over
  pub left_whole : (iter : S) (a : Option (List ℕ)) (old : List ℕ) → left iter ≡ all → LinesLeft f all (left iter) a a old old
  left_whole iter a old is = record { done = []; whole = ap (flat_map f) (sym is); pushed = Pushed-nothing a old }

  one_taken : (iter next : S) (item : Option A) (x : A) (done : List (List ℕ)) → item ≡ Some x → YieldsFirstBy view left iter item next → flat_map f all ≡ done ++ flat_map f (left iter)
      → flat_map f all ≡ done ++ f (view x) ++ flat_map f (left next)
  one_taken iter next item x done is step whole =
      let taken : left iter ≡ view x ∷ left next = subst (λ i. YieldsFirstBy view left iter i next) is step in
      whole ∙ ap (λ xs. done ++ flat_map f xs) taken ∙ sym (append_assoc done (f (view x)) (flat_map f (left next)))

  -- one value more
  pub left_fewer : (iter next : S) (item : Option A) (x : A) (a b c : Option (List ℕ)) (old mid new : List ℕ) → item ≡ Some x → YieldsFirstBy view left iter item next
      → LinesLeft f all (left iter) a b old mid → Pushed b c mid new (lines_text (f (view x))) → LinesLeft f all (left next) a c old new
  left_fewer iter next item x a b c old mid new is step h k = record {
    done = h.done ++ f (view x);
    whole = one_taken iter next item x h.done is step h.whole;
    pushed = lines_then (Ok tt) a b c old mid new h.done (f (view x)) h.pushed k;
  }

  -- a beginning of the lines, up to a value
  pub left_front : (iter next : S) (item : Option A) (x : A) (a b c : Option (List ℕ)) (old mid new : List ℕ) → item ≡ Some x → YieldsFirstBy view left iter item next
      → LinesLeft f all (left iter) a b old mid → PushedFront b c mid new (lines_text (f (view x))) → PushedFront a c old new (lines_text (flat_map f all))
  left_front iter next item x a b c old mid new is step h k =
      subst (λ l. PushedFront a c old new (lines_text l)) (sym (one_taken iter next item x h.done is step h.whole)) (front_amid a b c old mid new h.done (f (view x)) (flat_map f (left next)) h.pushed k)

  -- each value was gone over
  pub left_none : (iter next : S) (item : Option A) (a b : Option (List ℕ)) (old new : List ℕ) → item ≡ None → YieldsFirstBy view left iter item next
      → LinesLeft f all (left iter) a b old new → Pushed a b old new (lines_text (flat_map f all))
  left_none iter next item a b old new is step h =
      let none : left iter ≡ [] = (subst (λ i. YieldsFirstBy view left iter i next) is step).0 in
      subst (λ l. Pushed a b old new (lines_text l)) (sym (h.whole ∙ ap (λ xs. h.done ++ flat_map f xs) none ∙ append-nil h.done)) h.pushed

-- the same, where values are found by their places
module _ {X : Type 0} (line : X → List ℕ) where
  take_next : (xs : List X) (i : ℕ) → take (suc i) xs ≡ take i xs ++ option_to_list (slice_get xs i)
  take_next [] zero = refl
  take_next [] (suc i) = refl
  take_next (x ∷ xs) zero = refl
  take_next (x ∷ xs) (suc i) = ap (λ l. x ∷ l) (take_next xs i)

  lines_next : (xs : List X) (i : ℕ) → map line (take (i + 1) xs) ≡ map line (take i xs) ++ map line (option_to_list (slice_get xs i))
  lines_next xs i = ap (λ n. map line (take n xs)) (add-one i) ∙ ap (map line) (take_next xs i) ∙ map-append line (take i xs) (option_to_list (slice_get xs i))

  pub next_more : (a b c : Option (List ℕ)) (old mid new : List ℕ) (xs : List X) (i : ℕ)
      → Pushed a b old mid (lines_text (map line (take i xs))) → Pushed b c mid new (lines_text (map line (option_to_list (slice_get xs i))))
      → Pushed a c old new (lines_text (map line (take (i + 1) xs)))
  next_more a b c old mid new xs i h k =
      subst (λ l. Pushed a c old new (lines_text l)) (sym (lines_next xs i)) (lines_then (Ok tt) a b c old mid new (map line (take i xs)) _ h k)

  pub next_front : (a b c : Option (List ℕ)) (old mid new : List ℕ) (xs : List X) (i : ℕ)
      → Pushed a b old mid (lines_text (map line (take i xs))) → PushedFront b c mid new (lines_text (map line (option_to_list (slice_get xs i))))
      → PushedFront a c old new (lines_text (map line xs))
  next_front a b c old mid new xs i h k =
      let at : map line xs ≡ map line (take i xs) ++ map line (option_to_list (slice_get xs i)) ++ map line (drop (i + 1) xs) =
      ap (map line) (sym (take-append-drop (i + 1) xs)) ∙ map-append line (take (i + 1) xs) (drop (i + 1) xs) ∙ ap (λ l. l ++ map line (drop (i + 1) xs)) (lines_next xs i) in
      subst (λ l. PushedFront a c old new (lines_text l)) (sym at) (front_amid a b c old mid new (map line (take i xs)) _ (map line (drop (i + 1) xs)) h k)

-- lines of values, and those of more values behind them
module _ {Y : Type 0} (line : Y → List ℕ) where
  pub values_more : (a b c : Option (List ℕ)) (old mid new : List ℕ) (xs ys all : List Y) → all ≡ xs ++ ys
      → Pushed a b old mid (lines_text (map line xs)) → Pushed b c mid new (lines_text (map line ys)) → Pushed a c old new (lines_text (map line all))
  values_more a b c old mid new xs ys all is h k =
      subst (λ l. Pushed a c old new (lines_text l)) (sym (ap (map line) is ∙ map-append line xs ys)) (lines_then (Ok tt) a b c old mid new (map line xs) (map line ys) h k)

  pub values_front : (a b c : Option (List ℕ)) (old mid new : List ℕ) (xs ys zs all : List Y) → all ≡ xs ++ (ys ++ zs)
      → Pushed a b old mid (lines_text (map line xs)) → PushedFront b c mid new (lines_text (map line ys)) → PushedFront a c old new (lines_text (map line all))
  values_front a b c old mid new xs ys zs all is h k =
      subst (λ l. PushedFront a c old new (lines_text l))
      (sym (ap (map line) (is ∙ sym (append_assoc xs ys zs)) ∙ map-append line (xs ++ ys) zs ∙ ap (λ l. l ++ map line zs) (map-append line xs ys)))
      (front_amid a b c old mid new (map line xs) (map line ys) (map line zs) h k)
