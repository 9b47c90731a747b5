-- Parts of texts, and rows that go into a room.
use Rattle.std.proofs.Common.{◌≡◌, ◌⊎◌, inl, inr, ℕ, ℤ, ◌+◌, ◌-◌, ◌≤◌, ◌<◌, ◌^◌, zero, suc, List, [], ◌∷◌, ◌++◌, length, take, drop, refl, sym, ap, subst, ◌∙◌, append_assoc, append-nil, arith, Option, None, Some, Result, Ok, Err, slice_get}
use Rattle.std.specs.Prelude.{⊤, min, pos}
use Rattle.std.proofs.lemmas.List.{length-append, length-drop}
use Rattle.occ_types.specs.Key.{Key}
use Rattle.occ_types.specs.Row.{Row}
use Rattle.occ_bytes.specs.Bytes.{IsSize, key_bytes, row_bytes, put_at}
use Rattle.occ_bytes.proofs.Rooms.{put_more, put_both}
use Rattle.occ_c.specs.declared.desks.Desk.{Desk}
use Rattle.occ_c.specs.Kept.{Fetches, entry_bytes, entries_bytes, PutsWhole, HasNoRoom, IsTold, WritesRows, went_code}
use Rattle.occ_c.specs.Texts.{part_from}

take_min : (xs : List ℕ) (n k : ℕ) → k ≡ min (length xs) n → take k xs ≡ take n xs
take_min [] zero zero is = refl
take_min [] zero (suc k) is = refl
take_min [] (suc n) zero is = refl
take_min [] (suc n) (suc k) is = refl
take_min (x ∷ xs) zero zero is = refl
take_min (x ∷ xs) zero (suc k) is = absurd (omega (arith, is))
take_min (x ∷ xs) (suc n) zero is = absurd (omega (arith, is))
take_min (x ∷ xs) (suc n) (suc k) is = ap (λ (l : List ℕ). x ∷ l) (take_min xs n k (omega (arith, is)))

pub drop_past : {X : Type 0} (xs : List X) (n : ℕ) → length xs ≤ n → drop n xs ≡ []
drop_past [] zero past = refl
drop_past [] (suc n) past = refl
drop_past (x ∷ xs) zero past = absurd (omega (arith, past))
drop_past (x ∷ xs) (suc n) past = drop_past xs n (omega (arith, past))

take_nil : (n : ℕ) → take {A = ℕ} n [] ≡ []
take_nil zero = refl
take_nil (suc n) = refl

pub nothing_from : (text : List ℕ) (from room : ℕ) → length text < from → part_from text from room ≡ []
nothing_from text from room past = ap (λ (l : List ℕ). take room l) (drop_past text from (omega (arith, past))) ∙ take_nil room

-- the part that is put is that which has room
pub part_put : (text old new : List ℕ) (from count result : ℕ) → count ≡ min (length (drop from text)) (length old)
    → (0 + length (take count (drop from text)) ≤ length old → (new ≡ put_at old 0 (take count (drop from text))) × (result ≡ 0 + length (take count (drop from text))))
    → (result ≡ length (part_from text from (length old))) × (new ≡ put_at old 0 (part_from text from (length old)))
part_put text old new from count result is puts =
    let same : take count (drop from text) ≡ part_from text from (length old) = take_min (drop from text) (length old) count is in
    let long : length (take count (drop from text)) ≤ length old = short (drop from text) count (length old) (omega (arith, is)) in
    let put : (new ≡ put_at old 0 (take count (drop from text))) × (result ≡ 0 + length (take count (drop from text))) = puts (omega (arith, long)) in
    let size : result ≡ 0 + length (take count (drop from text)) = put.1 in (
      omega (arith, size, ap (λ (l : List ℕ). length l) same),
      put.0 ∙ ap (λ (l : List ℕ). put_at old 0 l) same,
    )
  where
    short : (xs : List ℕ) (k n : ℕ) → k ≤ n → length (take k xs) ≤ n
    short [] zero n le = omega (arith, le)
    short [] (suc k) n le = omega (arith, le)
    short (x ∷ xs) zero n le = omega (arith, le)
    short (x ∷ xs) (suc k) zero le = absurd (omega (arith, le))
    short (x ∷ xs) (suc k) (suc n) le = omega (arith, short xs k n (omega (arith, le)))

-- ---- rows

entries_pushed : (went : List (Key × Row)) (entry : Key × Row) → entries_bytes (went ++ entry ∷ []) ≡ entries_bytes went ++ entry_bytes entry
entries_pushed [] entry = append-nil (entry_bytes entry)
entries_pushed (first ∷ went) entry = ap (λ (l : List ℕ). entry_bytes first ++ l) (entries_pushed went entry) ∙ sym (append_assoc (entry_bytes first) (entries_bytes went) (entry_bytes entry))

-- what stands in a room before a further row goes there
pub record Going (rows : List (Key × Row)) (first place at : ℕ) (old room : List ℕ) : Type 0 where
  pub went : List (Key × Row)
  pub whole : drop first rows ≡ went ++ drop place rows
  pub count : place ≡ first + length went
  pub size : at ≡ length (entries_bytes went)
  pub fits : at ≤ length old
  pub is : room ≡ put_at old 0 (entries_bytes went)
  pub same : length room ≡ length old

-- the first row of a list that is left, and the rest
pub drop_first : (rows : List (Key × Row)) (place : ℕ) → place < length rows → (entry : Key × Row) × (slice_get rows place ≡ Some entry) × (drop place rows ≡ entry ∷ drop (place + 1) rows)
drop_first [] place below = absurd (omega (arith, below))
drop_first (row ∷ rows) zero below = (row, refl, refl)
drop_first (row ∷ rows) (suc place) below =
    let here = drop_first rows place (omega (arith, below)) in
    let e : suc place + 1 ≡ suc (place + 1) = omega arith in
    (here.0, here.1, here.2 ∙ ap (λ (k : ℕ). here.0 ∷ drop k (row ∷ rows)) (sym e))

pub going_none : (rows : List (Key × Row)) (first : ℕ) (old : List ℕ) → Going rows first first 0 old old
going_none rows first old = record { went = []; whole = refl; count = omega arith; size = refl; fits = omega arith; is = refl; same = refl }

-- one more row went
pub going_more : (rows : List (Key × Row)) (first place at behind : ℕ) (old room new : List ℕ) → place < length rows
    → ((entry : Key × Row) → slice_get rows place ≡ Some entry → PutsWhole room at (entry_bytes entry) new (Ok behind)) → length new ≡ length room
    → Going rows first place at old room → Going rows first (place + 1) behind old new
going_more rows first place at behind old room new below puts kept g =
    let here = drop_first rows place below in
    let put : PutsWhole room at (entry_bytes here.0) new (Ok behind) = puts here.0 here.1 in
    let pushed : entries_bytes (g.went ++ here.0 ∷ []) ≡ entries_bytes g.went ++ entry_bytes here.0 = entries_pushed g.went here.0 in
    let long : length (entries_bytes (g.went ++ here.0 ∷ [])) ≡ length (entries_bytes g.went) + length (entry_bytes here.0) =
    ap (λ (l : List ℕ). length l) pushed ∙ length-append (entries_bytes g.went) (entry_bytes here.0) in
    let size : at ≡ length (entries_bytes g.went) = g.size in
    let same : length room ≡ length old = g.same in
    let room_for : at + length (entry_bytes here.0) ≤ length room = put.0 in
    let there : behind ≡ at + length (entry_bytes here.0) = put.2 in
    let place_at : at ≡ 0 + length (entries_bytes g.went) = omega (arith, size) in
    record {
      went = g.went ++ here.0 ∷ [];
      whole = g.whole ∙ ap (λ (l : List (Key × Row)). g.went ++ l) here.2 ∙ sym (append_assoc g.went (here.0 ∷ []) (drop (place + 1) rows));
      count = omega (arith, g.count, length-append g.went (here.0 ∷ []));
      size = omega (arith, there, size, long);
      fits = omega (arith, room_for, there, same);
      is = put.1 ∙ ap (λ (l : List ℕ). put_at l at (entry_bytes here.0)) g.is ∙ ap (λ (k : ℕ). put_at (put_at old 0 (entries_bytes g.went)) k (entry_bytes here.0)) place_at
          ∙ put_more old 0 (entries_bytes g.went) (entry_bytes here.0) (omega (arith, room_for, size, same, length-append (entries_bytes g.went) (entry_bytes here.0)))
          ∙ ap (λ (l : List ℕ). put_at old 0 l) (sym pushed);
      same = kept ∙ same;
    }

-- the next row has no room
pub went_short : (rows : List (Key × Row)) (first place at size bytes count : ℕ) (old room new : List ℕ) → place < length rows
    → ((entry : Key × Row) → slice_get rows place ≡ Some entry → PutsWhole room at (entry_bytes entry) new (Err size)) → Going rows first place at old room
    → count + first ≡ place → (place ≡ first → bytes ≡ size) → (first < place → bytes ≡ at) → WritesRows (drop first rows) old new count bytes
went_short rows first place at size bytes count old room new below puts g counted alone behind =
    let here = drop_first rows place below in
    let put : PutsWhole room at (entry_bytes here.0) new (Err size) = puts here.0 here.1 in
    let full : length room < at + length (entry_bytes here.0) = put.0 in
    record {
      went = g.went;
      left = here.0 ∷ drop (place + 1) rows;
      whole = g.whole ∙ ap (λ (l : List (Key × Row)). g.went ++ l) here.2;
      fits = omega (arith, g.size, g.fits);
      full = omega (arith, full, g.size, g.same);
      room = put.1 ∙ g.is;
      counted = omega (arith, counted, g.count);
      told = told here.0 (drop (place + 1) rows) g.went g.count g.size put.2;
    }
  where
    told : (entry : Key × Row) (left : List (Key × Row)) (went : List (Key × Row)) → place ≡ first + length went → at ≡ length (entries_bytes went) → IsSize size (length (entry_bytes entry)) → IsTold went (entry ∷ left) bytes
    told entry left [] is sized size_is = subst (λ (k : ℕ). IsSize k (length (entry_bytes entry))) (sym (alone (omega (arith, is)))) size_is
    told entry left (row ∷ went) is sized size_is = behind (omega (arith, is)) ∙ sized

-- all rows went
pub went_all : (rows : List (Key × Row)) (first place at count : ℕ) (old room : List ℕ) → length rows ≤ place → Going rows first place at old room → count ≡ length rows - first
    → WritesRows (drop first rows) old room count at
went_all rows first place at count old room past g counted =
    let whole : drop first rows ≡ g.went ++ [] = g.whole ∙ ap (λ (l : List (Key × Row)). g.went ++ l) (drop_past rows place past) in
    let long : length (drop first rows) ≡ length g.went = ap (λ (l : List (Key × Row)). length l) (whole ∙ append-nil g.went) in
    record {
      went = g.went;
      left = [];
      whole = whole;
      fits = omega (arith, g.size, g.fits);
      full = tt;
      room = g.is;
      counted = omega (arith, counted, long, length-drop first rows);
      told = told g.went g.size;
    }
  where
    told : (went : List (Key × Row)) → at ≡ length (entries_bytes went) → IsTold went [] at
    told [] sized = sized
    told (row ∷ went) sized = sized

-- a row with its key is put whole, or has no room
some_is : (found entry : Key × Row) (there : Option (Key × Row)) → there ≡ Some found → there ≡ Some entry → found ≡ entry
some_is found entry there one two = ap (λ (o : Option (Key × Row)). elim o [ None ↦ found | Some x ↦ x ]) (sym one ∙ two)

pub entry_put : (rows : List (Key × Row)) (place at k r size : ℕ) (room mid new : List ℕ) (behind result : ℕ) (found : Key × Row) → slice_get rows place ≡ Some found
    → IsSize k (length (key_bytes found.0)) → IsSize r (length (row_bytes found.1)) → size ≡ min (k + r) 18446744073709551615 → size ≤ length room - at → at ≤ length room
    → length room < 18446744073709551615 → length mid ≡ length room
    → (at + length (key_bytes found.0) ≤ length room → (mid ≡ put_at room at (key_bytes found.0)) × (behind ≡ at + length (key_bytes found.0)))
    → (behind + length (row_bytes found.1) ≤ length mid → (new ≡ put_at mid behind (row_bytes found.1)) × (result ≡ behind + length (row_bytes found.1)))
    → (entry : Key × Row) → slice_get rows place ≡ Some entry → PutsWhole room at (entry_bytes entry) new (Ok result)
entry_put rows place at k r size room mid new behind result found here ks rs sum room_for within small kept puts puts_more entry there =
    let both : length (entry_bytes found) ≡ length (key_bytes found.0) + length (row_bytes found.1) = length-append (key_bytes found.0) (row_bytes found.1) in
    let fits : at + length (entry_bytes found) ≤ length room = omega (arith, both, ks, rs, sum, room_for, within, small) in
    let put : (new ≡ put_at room at (entry_bytes found)) × (result ≡ at + length (entry_bytes found)) =
    put_both room mid new at behind result (key_bytes found.0) (row_bytes found.1) (key_bytes found.0) (row_bytes found.1) refl refl kept puts puts_more fits in
    subst (λ (e : Key × Row). PutsWhole room at (entry_bytes e) new (Ok result)) (some_is found entry (slice_get rows place) here there) (fits, put.0, put.1)

-- the code of a fetch
went_short_code : (went left : List (Key × Row)) (code : ℤ) → (length went ≡ 0 → 0 < length left → code ≡ pos 103) → ((0 < length went) ⊎ (length left ≡ 0) → code ≡ pos 0) → code ≡ went_code went left
went_short_code [] [] code short done = done (inr refl)
went_short_code [] (row ∷ left) code short done = short refl (omega arith)
went_short_code (row ∷ went) left code short done = done (inl (omega arith))

either_of : (went left_rows : List (Key × Row)) (count left : ℕ) → count ≡ length went → left ≡ length went + length left_rows → (0 < length went) ⊎ (length left_rows ≡ 0)
    → (0 < count) ⊎ (left ≡ 0)
either_of went left_rows count left counted lefts (inl some) = inl (omega (arith, some, counted))
either_of [] left_rows count left counted lefts (inr none) = inr (omega (arith, lefts, none))
either_of (row ∷ went) left_rows count left counted lefts (inr none) = inl (omega (arith, counted))

rows_are : (rows others : List (Key × Row)) (there : Option (List (Key × Row))) → there ≡ Some rows → there ≡ Some others → rows ≡ others
rows_are rows others there one two = ap (λ (o : Option (List (Key × Row))). elim o [ None ↦ rows | Some x ↦ x ]) (sym one ∙ two)

some_rows : (rows : List (Key × Row)) (there : Option (List (Key × Row))) → there ≡ Some rows → there ≡ None → ⊥
some_rows rows there some none = absurd (cc (sym some ∙ none))

pub fetched : (old mid new : Desk) (room filled : List ℕ) (rows : List (Key × Row)) (next count size left saturated : ℕ) (code : ℤ)
    → old.kept.rows ≡ Some rows → next ≡ old.kept.next → mid ≡ record old { kept = record old.kept { rows = None } }
    → new ≡ record mid { kept = record mid.kept { rows = Some rows; next = saturated } } → saturated ≡ min (next + count) 18446744073709551615 → next ≤ 18446744073709551615
    → length rows < 2 ^ 63 → left ≡ length rows - next
    → (count ≡ 0 → 0 < left → code ≡ pos 103) → ((0 < count) ⊎ (left ≡ 0) → code ≡ pos 0)
    → WritesRows (drop next rows) room filled count size → Fetches old new room filled size count code
fetched old mid new room filled rows next count size left saturated code there is taken put sum bound few lefts short done w =
    let all : length (drop next rows) ≡ length w.went + length w.left = ap (λ (l : List (Key × Row)). length l) w.whole ∙ length-append w.went w.left in
    let rest : length (drop next rows) ≡ length rows - next = length-drop next rows in
    let further : saturated ≡ old.kept.next + count = omega (arith, sum, is, w.counted, all, rest, few, bound) in
    let same : new ≡ record old { kept = record old.kept { next = old.kept.next + count } } =
    put ∙ ap (λ (d : Desk). record d { kept = record d.kept { rows = Some rows; next = saturated } }) taken
    ∙ ap (λ (k : ℕ). record old { kept = record old.kept { rows = Some rows; next = k } }) further
    ∙ ap (λ (o : Option (List (Key × Row))). record old { kept = record old.kept { rows = o; next = old.kept.next + count } }) (sym there) in
    let told : code ≡ went_code w.went w.left =
    went_short_code w.went w.left code (λ none some. short (omega (arith, none, w.counted)) (omega (arith, some, all, rest, lefts, none)))
    (λ either. done (either_of w.went w.left count left w.counted (omega (arith, lefts, rest, all)) either)) in
    record {
      none = λ nothing. absurd (some_rows rows old.kept.rows there nothing);
      some = λ others also.
          subst (λ (r : List (Key × Row)). (v : WritesRows (drop old.kept.next r) room filled count size)
          × (new ≡ record old { kept = record old.kept { next = old.kept.next + count } }) × (code ≡ went_code v.went v.left))
          (rows_are rows others old.kept.rows there also)
          (subst (λ (k : ℕ). (v : WritesRows (drop k rows) room filled count size)
          × (new ≡ record old { kept = record old.kept { next = old.kept.next + count } }) × (code ≡ went_code v.went v.left)) is (w, same, told));
    }
