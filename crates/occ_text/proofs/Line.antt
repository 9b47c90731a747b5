-- Lines out of the bytes that are still to come.
use Rattle.std.proofs.Common.{◌≡◌, ◌≢◌, ℕ, ◌+◌, ◌-◌, ◌<◌, ◌≤◌, List, [], ◌∷◌, ◌++◌, length, take, drop, get_or, Option, refl, sym, ap, subst, ◌∙◌, append_assoc, take-append-drop, length-append, length-drop, arith}
use Rattle.std.specs.List.{All, slice_range}
use Rattle.memchr.specs.Find.{Nowhere, Passes, is_byte}
use Rattle.std.proofs.lemmas.Bool.Decides.{nat_tests}
use Rattle.std.proofs.lemmas.List.{append-nil, drop-drop, drop-take, drop_more, get_or-take, length-take-le}
use Rattle.std.specs.Prelude.{Ok}
use Rattle.std.proofs.KnownBytes.{Consumes-trans, Consumes-kept, prepend_known-read}
use Rattle.std.proofs.lemmas.List.Elements.{All-append, All-from_get_or}
use Rattle.std.specs.Io.KnownBytes.{Consumes, Keeps, prepend_known}
use Rattle.occ_text.specs.declared.input.Piece.{Piece}
use Rattle.occ_text.specs.declared.input.Piece.TheVariants.{Whole, Part, Long, Nothing}
use Rattle.occ_text.specs.Line.{Source, HasNoFeed, IsLine, TakesPiece, PieceGives, GatherGives}

-- what is left of a range after its front
pub range_rest : (block : List ℕ) (from to n : ℕ) → from + n ≤ to → drop n (slice_range block from to) ≡ slice_range block (from + n) to
range_rest block from to n le =
    let count : to - from ≡ n + (to - (from + n)) = omega arith in
    ap (λ (k : ℕ). drop n (take k (drop from block))) count ∙ drop-take n (to - (from + n)) (drop from block) ∙ ap (take (to - (from + n))) (drop-drop n from block)

pub length-range : (block : List ℕ) (from to : ℕ) → from ≤ to → to ≤ length block → length (slice_range block from to) ≡ to - from
length-range block from to le in' = length-take-le (to - from) (drop from block) (omega (arith, length-drop from block))

-- a piece up to a line feed
pub whole_piece : (block : List ℕ) (from to len : ℕ) → from ≤ to → to ≤ length block → len < length (slice_range block from to) → get_or (slice_range block from to) len 0 ≡ 10
    → slice_range block from to ≡ take len (slice_range block from to) ++ 10 ∷ slice_range block (from + (len + 1)) to
whole_piece block from to len le in' lt feed =
    let unread = slice_range block from to in
    let n : length (slice_range block from to) ≡ to - from = length-range block from to le in' in
    sym (take-append-drop len unread) ∙ ap (λ (l : List ℕ). take len unread ++ l) (drop_more unread len 0 lt ∙ ap (λ (b : ℕ). b ∷ drop (len + 1) unread) feed
    ∙ ap (λ (l : List ℕ). 10 ∷ l) (range_rest block from to (len + 1) (omega arith)))

-- what stands before the line feed is taken, and the line feed with it
pub takes_whole : (block u line new unread old : List ℕ) (from to len : ℕ) → u ≡ unread → slice_range block from to ≡ unread → line ≡ old → from ≤ to → to ≤ length block
    → HasNoFeed (take len u) → len < length u → (len < length u → get_or u len 0 ≡ 10) → new ≡ line ++ take len u → length line + len ≤ 8192
    → (piece : List ℕ) × (unread ≡ piece ++ 10 ∷ slice_range block (from + (len + 1)) to) × HasNoFeed piece × (new ≡ old ++ piece) × (length new ≤ 8192)
takes_whole block u line new unread old from to len shown view lines le in' none lt feed is short =
    let same : u ≡ slice_range block from to = shown ∙ sym view in
    let at : get_or (slice_range block from to) len 0 ≡ 10 = subst (λ (l : List ℕ). get_or l len 0 ≡ 10) same (feed lt) in
    let lt' : len < length (slice_range block from to) = subst (λ (l : List ℕ). len < length l) same lt in
    let n : length new ≡ length line + length (take len u) = ap length is ∙ length-append line (take len u) in (
      take len unread,
      subst (λ (l : List ℕ). l ≡ take len l ++ 10 ∷ slice_range block (from + (len + 1)) to) view (whole_piece block from to len le in' lt' at),
      subst (λ (l : List ℕ). HasNoFeed (take len l)) shown none,
      is ∙ ap (λ (l : List ℕ). l ++ take len u) lines ∙ ap (λ (l : List ℕ). old ++ take len l) shown,
      omega (arith, length-take-le len u (omega arith)),
    )

-- more than fits on a line stands before any line feed
long_piece : (unread line : List ℕ) (len : ℕ) → HasNoFeed (take len unread) → len ≤ length unread → 8192 < length line + len
    → (piece : List ℕ) × (rest : List ℕ) × (unread ≡ piece ++ rest) × HasNoFeed piece × (8192 < length (line ++ piece))
long_piece unread line len h le long =
    (take len unread, drop len unread, sym (take-append-drop len unread), h, omega (arith, length-append line (take len unread), length-take-le len unread le))

-- the line would be too long
pub takes_long : (u line unread old : List ℕ) (len : ℕ) → u ≡ unread → line ≡ old → HasNoFeed (take len u) → len ≤ length u → 8192 < length line + len
    → (piece : List ℕ) × (rest : List ℕ) × (unread ≡ piece ++ rest) × HasNoFeed piece × (8192 < length (old ++ piece))
takes_long u line unread old len shown lines none le long =
    long_piece unread old len (subst (λ (l : List ℕ). HasNoFeed (take len l)) shown none) (subst (λ (l : List ℕ). len ≤ length l) shown le) (subst (λ (l : List ℕ). 8192 < length l + len) lines long)

-- what is taken of the unread bytes is taken of all that is to come
pub PieceGives-from_taken : (piece : Piece) (a r : Option (List ℕ)) (old mid new : Source) → Keeps a (prepend_known mid.unread r) → mid.line ≡ old.line → 0 < length mid.unread
    → TakesPiece piece mid new → PieceGives (Ok piece) a (prepend_known new.unread r) old new
PieceGives-from_taken Whole a r old mid new kept line some t =
    let front : mid.unread ≡ (t.0 ++ 10 ∷ []) ++ new.unread = t.1 ∙ sym (append_assoc t.0 (10 ∷ []) new.unread) in
    (t.0, (prepend_known-read a r mid.unread new.unread (t.0 ++ 10 ∷ []) ⊥ kept front (λ p. absurd p)).0, t.2, t.3 ∙ ap (λ (l : List ℕ). l ++ t.0) line, t.4)
PieceGives-from_taken Part a r old mid new kept line some t =
    let front : mid.unread ≡ mid.unread ++ new.unread = sym (append-nil mid.unread) ∙ ap (λ (l : List ℕ). mid.unread ++ l) (sym t.0) in
    (mid.unread, (prepend_known-read a r mid.unread new.unread mid.unread ⊥ kept front (λ p. absurd p)).0, t.1, some, t.2 ∙ ap (λ (l : List ℕ). l ++ mid.unread) line, t.3)
PieceGives-from_taken Long a r old mid new kept line some t =
    (t.0, prepend_known t.1 r, (prepend_known-read a r mid.unread t.1 t.0 ⊥ kept t.2 (λ p. absurd p)).0, t.3, subst (λ (l : List ℕ). 8192 < length (l ++ t.0)) line t.4)
PieceGives-from_taken Nothing a r old mid new kept line some t = absurd t

-- the last piece ends what the pieces before it began
pub GatherGives-from_last : (last : Piece) (a b c : Option (List ℕ)) (mid new : Source) → Consumes a b mid.line → IsLine mid.line → (last ≡ Part → ⊥)
    → PieceGives (Ok last) b c mid new → GatherGives (Ok last) a c new.line
GatherGives-from_last Whole a b c mid new taken line ends p =
    let whole : mid.line ++ (p.0 ++ 10 ∷ []) ≡ new.line ++ 10 ∷ [] = sym (append_assoc mid.line p.0 (10 ∷ [])) ∙ ap (λ (l : List ℕ). l ++ 10 ∷ []) (sym p.3) in (
      subst (Consumes a c) whole (Consumes-trans a b c mid.line (p.0 ++ 10 ∷ []) taken p.1),
      record { no_feed = subst HasNoFeed (sym p.3) (All-append (λ (byte : ℕ). byte ≢ 10) mid.line p.0 line.no_feed p.2); short = p.4 },
    )
GatherGives-from_last Part a b c mid new taken line ends p = absurd (ends refl)
GatherGives-from_last Long a b c mid new taken line ends p =
    (mid.line ++ p.0, p.1, Consumes-trans a b p.1 mid.line p.0 taken p.2, All-append (λ (byte : ℕ). byte ≢ 10) mid.line p.0 line.no_feed p.3, p.4)
GatherGives-from_last Nothing a b c mid new taken line ends p =
    (subst (Consumes a c) (sym p.2) (Consumes-kept a b c mid.line taken p.0), p.1, subst IsLine (sym p.2) line)

-- before its first place a byte doesn't stand
pub before_first : (byte : ℕ) (bytes : List ℕ) (place : ℕ) → place ≤ length bytes → Nowhere (Passes (is_byte byte) bytes) 0 place → All (λ b. b ≢ byte) (take place bytes)
before_first byte bytes place within none =
    All-from_get_or (λ b. b ≢ byte) (take place bytes) 0 (λ i inside same.
    let below : i < place = omega (arith, inside, length-take-le place bytes within) in
    none i (omega arith) below (grind (arith, nat_tests, get_or-take place bytes i 0 below, same)))
