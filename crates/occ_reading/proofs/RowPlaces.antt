-- The lines of a row of the log, and where they lead.
use Rattle.std.proofs.Common.{◌≡◌, ℕ, suc, ◌+◌, ◌-◌, ◌<◌, Bool, true, false, cond, List, ◌∷◌, ◌++◌, map, length, Option, Some, None, Result, Ok, Err, ◌||◌, refl, sym, ap, subst, ◌∙◌, arith, []}
use Rattle.occ_reading.proofs.Common.{Consumes, FailsFrom, Gathered, IfErr, InRow, IsAbove, IsLine, IsSpelled, IsTrue, Key, LeadsOn, NoneTaken, Object, PairFits, PairOf, Place, Position, ReadFault, Row, Schema, Taken, Took, Unread, Version, Write, WriteFits, WriteOf, books, check_tables, eq_by_cmp, gathered_fails, gathered_more, is_lt, is_some, key_cmp, last_key, line_refused, list_any, map-append, next_fails, next_taken, none_fails, object_cmp, own, pair_line, pairs_to_come, point, slice_get, told, viewed_more, write_line, write_of_line, writes_to_come, ◌↔◌}
use Rattle.occ_text.specs.declared.tokens.Unread.TheVariants as unread
use Rattle.occ_text.specs.declared.faults.ReadFault.TheVariants as faults
use Rattle.occ_reading.proofs.RowLines.{write_line-again}

-- ---- keys of a range, each above the one before

last_viewed : {X : Type 0} (view : X → Key × Row) (xs : List X) (x : X) → Some x ≡ slice_get xs (length xs - 1) → last_key (map view xs) ≡ Some (view x).0
last_viewed view [] x e = absurd cc
last_viewed view (y ∷ []) x e = let f : x ≡ y = cc e in ap (λ z. Some (view z).0) (sym f)
last_viewed view (y ∷ z ∷ xs) x e =
    let n : length (y ∷ z ∷ xs) - 1 ≡ suc (length (z ∷ xs) - 1) = omega arith in
    last_viewed view (z ∷ xs) x (e ∙ ap (slice_get (y ∷ z ∷ xs)) n)

-- whether a key is above the last one
pub above_last : {X : Type 0} (view : X → Key × Row) (xs : List X) (x : X) (key : Key) (test : Bool) → Some x ≡ slice_get xs (length xs - 1) → test ≡ is_lt (key_cmp (view x).0 key) → IsTrue test ↔ IsAbove (last_key (map view xs)) key
above_last view xs x key test e is =
    let l = last_viewed view xs x e in
    (λ t. subst (λ o. IsAbove o key) (sym l) (sym is ∙ t), λ a. is ∙ subst (λ o. IsAbove o key) l a)

-- the last key behind one more row
pub last_more : {X : Type 0} (view : X → Key × Row) (xs now : List X) (x : X) → now ≡ xs ++ x ∷ [] → last_key (map view now) ≡ Some (view x).0
last_more view xs now x is = ap (λ l. last_key (map view l)) is ∙ by xs
  where
    by : (xs : _) → last_key (map view (xs ++ x ∷ [])) ≡ Some (view x).0
    by [] = refl
    by (y ∷ []) = refl
    by (y ∷ z ∷ xs) = by (z ∷ xs)

-- ---- pairs

abbrev pub Pairs : InRow → ℕ → ℕ → Place → Place → Position → Position → List (Key × Row) → Type 0
Pairs row reads table from to a b pairs = Gathered books (λ pair. pair_line pair ∷ []) (PairFits row.frame.version row.frame.schema table) from to a b pairs

-- one more pair
pub pairs_more : {X : Type 0} (view : X → Key × Row) (items shown now : List X) (x : X) (row : InRow) (reads table count counter : ℕ) {p : Place} {a : Position} (b c : Option (List ℕ)) (mid end : ℕ) → counter < count → now ≡ items ++ x ∷ [] → shown ≡ items
    → Pairs row reads table p (pairs_to_come row reads table (count - counter) (last_key (map view items))) a (point b mid) (map view items)
    → Taken view pair_line (λ pair. PairFits row.frame.version row.frame.schema table pair × IsAbove (last_key (map view shown)) pair.0) (Ok x) b c mid end
    → Pairs row reads table p (pairs_to_come row reads table (count - (counter + 1)) (last_key (map view now))) a (point c end) (map view now)
pairs_more view items shown now x row reads table count counter b c mid end lt is same so_far taken =
    let more = count - (counter + 1) in
    let next = next_taken books (PairOf row reads table more (last_key (map view items))) (view x)
    (subst (λ l. Taken view pair_line (λ pair. PairFits row.frame.version row.frame.schema table pair × IsAbove (last_key (map view l)) pair.0) (Ok x) b c mid end) same taken) in
    let to = subst (λ o. Took books (PairOf row reads table more (last_key (map view items))) (pairs_to_come row reads table more o) (point b mid) (point c end) (pair_line (view x) ∷ [])) (sym (last_more view items now x is)) next.0 in
    gathered_more books (λ k. pairs_to_come row reads table k (last_key (map view items))) (map view items) (map view now) (view x) count counter lt (viewed_more view items now x is) so_far (to, next.1.0)

pub pairs_fail : {X : Type 0} (view : X → Key × Row) (items shown : List X) (fault : ReadFault) (row : InRow) (reads table count counter : ℕ) {p : Place} {a : Position} (b c : Option (List ℕ)) (mid : ℕ) → counter < count → shown ≡ items
    → Pairs row reads table p (pairs_to_come row reads table (count - counter) (last_key (map view items))) a (point b mid) (map view items)
    → NoneTaken (IsSpelled pair_line (λ pair. PairFits row.frame.version row.frame.schema table pair × IsAbove (last_key (map view shown)) pair.0)) fault b c mid → FailsFrom books fault p a c
pairs_fail view items shown fault row reads table count counter b c mid lt same so_far taken =
    gathered_fails books fault c (λ k. pairs_to_come row reads table k (last_key (map view items))) count counter lt so_far
    (next_fails books (PairOf row reads table (count - (counter + 1)) (last_key (map view items))) fault b c mid (λ may. may)
    (subst (λ l. NoneTaken (IsSpelled pair_line (λ pair. PairFits row.frame.version row.frame.schema table pair × IsAbove (last_key (map view l)) pair.0)) fault b c mid) same taken))

-- ---- writes

either : (b : Bool) (x : Option Row) (o : Option (Option Row)) (test : Bool) → is_some o ≡ test → is_some (cond b (Some x) o) ≡ (b || test)
either true x o test e = refl
either false x o test e = e

-- an object is written where a write is its own
pub written : (writes : List Write) (object : Object) → list_any (eq_by_cmp object_cmp object) (map (λ (w : Write). w.0) writes) ≡ is_some (own writes object)
written [] object = refl
written (write ∷ writes) object = sym (either (eq_by_cmp object_cmp object write.0) write.1 (own writes object) (list_any (eq_by_cmp object_cmp object) (map (λ (w : Write). w.0) writes)) (sym (written writes object)))

-- the writes so far
abbrev pub Writes : InRow → ℕ → ℕ → Position → Position → List Write → Type 0
Writes row count left a b writes =
    Gathered books (λ write. write_line row.frame.schema write ∷ []) (WriteFits row.frame.version row.frame.schema) (writes_to_come row count []) (writes_to_come row left (map (λ (w : Write). w.0) writes)) a b writes

pub write_fails : (fault : ReadFault) (row : InRow) (count counter : ℕ) (writes : List Write) {a : Position} (b c : Option (List ℕ)) (mid : ℕ) → counter < count → Writes row count (count - counter) a (point b mid) writes
    → NoneTaken (IsSpelled (write_line row.frame.schema) (WriteFits row.frame.version row.frame.schema)) fault b c mid → FailsFrom books fault (writes_to_come row count []) a c
write_fails fault row count counter writes b c mid lt so_far taken =
    let objects = map (λ (w : Write). w.0) writes in
    gathered_fails books fault c (λ k. writes_to_come row k objects) count counter lt so_far
    (none_fails books (IsSpelled (write_line row.frame.schema) (WriteFits row.frame.version row.frame.schema)) fault (WriteOf row (count - (counter + 1)) objects) b c mid (λ may. may) (λ line leads. (leads.1.0, leads.1.1.0, leads.1.2)) taken)

-- the lines of no two writes are the same
same_write : (version : Version) (schema : Schema) (v w : Write) → check_tables schema ≡ None → WriteFits version schema v → WriteFits version schema w → write_line schema v ≡ write_line schema w → v ≡ w
same_write version schema v w good f g e =
    let h : Some v ≡ Some w = sym (write_line-again version schema v good f) ∙ ap (write_of_line version schema) e ∙ write_line-again version schema w good g in
    cc h

-- a write that was taken
abbrev pub WriteTaken : InRow → Write → Option (List ℕ) → Option (List ℕ) → ℕ → ℕ → Type 0
WriteTaken row write b c mid end = Consumes b c (write_line row.frame.schema write ++ 10 ∷ []) × WriteFits row.frame.version row.frame.schema write × (end ≡ mid + 1)

-- an object isn't written twice
twice_fails : (write : Write) (row : InRow) (count counter number : ℕ) (writes : List Write) {a : Position} (b c : Option (List ℕ)) (mid end : ℕ) → check_tables row.frame.schema ≡ None → counter < count → Writes row count (count - counter) a (point b mid) writes
    → WriteTaken row write b c mid end → IsLine (write_line row.frame.schema write) → number ≡ end → is_some (own writes write.0) ≡ true → FailsFrom books (faults.Malformed number) (writes_to_come row count []) a c
twice_fails write row count counter number writes b c mid end good lt so_far taken line here twice =
    let objects = map (λ (w : Write). w.0) writes in
    let from = WriteOf row (count - (counter + 1)) objects in
    let other : LeadsOn books from (write_line row.frame.schema write) → ⊥ = λ leads.
    let w : write ≡ leads.1.0 = same_write row.frame.version row.frame.schema write leads.1.0 good taken.1 leads.1.1.0 leads.1.2 in
    let e : false ≡ true = sym leads.1.1.1 ∙ ap (λ (v : Write). list_any (eq_by_cmp object_cmp v.0) objects) (sym w) ∙ written writes write.0 ∙ twice in
    cc e in
    gathered_fails books (faults.Malformed number) c (λ k. writes_to_come row k objects) count counter lt so_far (line_refused books from (write_line row.frame.schema write) b c mid end number (taken.0, taken.2, line) other here)

-- a write that was taken isn't added
pub add_fails : {X : Type 0} (added : Result X Unread) (fault : ReadFault) (write : Write) (row : InRow) (count counter number : ℕ) (writes : List Write) {a : Position} (b c : Option (List ℕ)) (mid end : ℕ) → check_tables row.frame.schema ≡ None → counter < count
    → Writes row count (count - counter) a (point b mid) writes → WriteTaken row write b c mid end → IsLine (write_line row.frame.schema write) → number ≡ end
    → IfErr added (λ why. why ≡ unread.Malformed → is_some (own writes write.0) ≡ true) → Err fault ≡ told added number → FailsFrom books fault (writes_to_come row count []) a c
add_fails (Ok x) fault write row count counter number writes b c mid end good lt so_far taken line here twice is = absurd cc
add_fails (Err unread.Memory) fault write row count counter number writes {a} b c mid end good lt so_far taken line here twice is =
    let memory : fault ≡ faults.Memory = cc is in
    subst (λ (f : ReadFault). FailsFrom books f (writes_to_come row count []) a c) (sym memory) tt
add_fails (Err unread.Malformed) fault write row count counter number writes {a} b c mid end good lt so_far taken line here twice is =
    let malformed : fault ≡ faults.Malformed number = cc is in
    subst (λ (f : ReadFault). FailsFrom books f (writes_to_come row count []) a c) (sym malformed) (twice_fails write row count counter number writes b c mid end good lt so_far taken line here (twice refl))

-- a line that can't be read is no fault of the device
pub no_read_failed : {X : Type 0} (read : Result X Unread) (fault : ReadFault) (number : ℕ) (Cause : Type 0) → Err fault ≡ told read number → fault ≡ faults.Read → Cause
no_read_failed (Ok x) fault number Cause is same = absurd cc
no_read_failed (Err unread.Memory) fault number Cause is same = let clash = ap Err (sym same) ∙ is in absurd (cc clash)
no_read_failed (Err unread.Malformed) fault number Cause is same = let clash = ap Err (sym same) ∙ is in absurd (cc clash)

-- one more write
pub write_more : (write : Write) (row : InRow) (count counter : ℕ) (writes now : List Write) {a : Position} (b c : Option (List ℕ)) (mid end : ℕ) → counter < count → Writes row count (count - counter) a (point b mid) writes → WriteTaken row write b c mid end
    → is_some (own writes write.0) ≡ false → now ≡ writes ++ write ∷ [] → Writes row count (count - (counter + 1)) a (point c end) now
write_more write row count counter writes now b c mid end lt so_far taken fresh is =
    let objects = map (λ (w : Write). w.0) writes in
    let more = count - (counter + 1) in
    let all : map (λ (w : Write). w.0) now ≡ objects ++ write.0 ∷ [] = ap (map (λ (w : Write). w.0)) is ∙ map-append (λ (w : Write). w.0) writes (write ∷ []) in
    let next = next_taken books (WriteOf row more objects) write (taken.0, (taken.1, written writes write.0 ∙ fresh), taken.2) in
    let to = subst (λ l. Took books (WriteOf row more objects) (writes_to_come row more l) (point b mid) (point c end) (write_line row.frame.schema write ∷ [])) (sym all) next.0 in
    gathered_more books (λ k. writes_to_come row k objects) writes now write count counter lt is so_far (to, taken.1)
