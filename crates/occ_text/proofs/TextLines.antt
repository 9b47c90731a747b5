-- Texts of lines: which lines a text has.
use Rattle.std.proofs.Common.{◌≡◌, ◌≢◌, ℕ, ◌≤◌, List, ◌∷◌, ◌++◌, length, refl, sym, ap, ◌∙◌, arith, length-append, append_assoc, []}
use Rattle.std.specs.List.{AllByRecursion}
use Rattle.std.proofs.lemmas.List.Elements.{All-head, All-tail}
use Rattle.occ_text.specs.Line.{HasNoFeed, IsLine, lines_text}

abbrev pub first_byte : List ℕ → ℕ
first_byte [] = 0
first_byte (byte ∷ bytes) = byte

abbrev later_bytes : List ℕ → List ℕ
later_bytes [] = []
later_bytes (byte ∷ bytes) = bytes

-- what stands before the first line feed is one line
pub cut_at_feed : (x y a b : List ℕ) → HasNoFeed x → HasNoFeed y → x ++ 10 ∷ a ≡ y ++ 10 ∷ b → (x ≡ y) × (a ≡ b)
cut_at_feed [] [] a b p q e = (refl, ap later_bytes e)
cut_at_feed [] (c ∷ y) a b p q e = absurd (All-head (λ (byte : ℕ). byte ≢ 10) c y q (sym (ap first_byte e)))
cut_at_feed (c ∷ x) [] a b p q e = absurd (All-head (λ (byte : ℕ). byte ≢ 10) c x p (ap first_byte e))
cut_at_feed (c ∷ x) (d ∷ y) a b p q e =
    let rest = cut_at_feed x y a b (All-tail (λ (byte : ℕ). byte ≢ 10) c x p) (All-tail (λ (byte : ℕ). byte ≢ 10) d y q) (ap later_bytes e) in
    let first : c ≡ d = ap first_byte e in
    ((λ i. first i ∷ rest.0 i), rest.1)

-- bytes without a line feed are no more than a line that begins there
pub within_line : (front rest line more : List ℕ) → HasNoFeed front → front ++ rest ≡ line ++ 10 ∷ more → length front ≤ length line
within_line [] rest line more p e = omega arith
within_line (c ∷ front) rest [] more p e = absurd (All-head (λ (byte : ℕ). byte ≢ 10) c front p (ap first_byte e))
within_line (c ∷ front) rest (d ∷ line) more p e = let n = within_line front rest line more (All-tail (λ (byte : ℕ). byte ≢ 10) c front p) (ap later_bytes e) in omega arith

-- the lines behind others, of a text that begins with them
pub record Behind (xs ys : List (List ℕ)) (rest : List ℕ) : Type 0 where
  pub more : List (List ℕ)
  pub whole : xs ≡ ys ++ more
  pub left : rest ≡ lines_text more

pub one_more : (line : List ℕ) (lines : List (List ℕ)) (rest : List ℕ) → lines_text (line ∷ lines) ++ rest ≡ line ++ 10 ∷ (lines_text lines ++ rest)
one_more line lines rest = append_assoc (line ++ 10 ∷ []) (lines_text lines) rest ∙ append_assoc line (10 ∷ []) (lines_text lines ++ rest)

pub begins_line : (line : List ℕ) (lines : List (List ℕ)) → lines_text (line ∷ lines) ≡ line ++ 10 ∷ lines_text lines
begins_line line lines = append_assoc line (10 ∷ []) (lines_text lines)

pub nothing_is_no_line : (line : List ℕ) (more : List ℕ) → [] ≡ line ++ 10 ∷ more → ⊥
nothing_is_no_line line more e = let n = ap length e in absurd (omega (arith, length-append line (10 ∷ more)))

pub lines_behind : (xs ys : List (List ℕ)) (rest : List ℕ) → AllByRecursion IsLine xs → AllByRecursion IsLine ys → lines_text xs ≡ lines_text ys ++ rest → Behind xs ys rest
lines_behind xs [] rest p q e = record { more = xs; whole = refl; left = sym e }
lines_behind [] (y ∷ ys) rest p q e = absurd (nothing_is_no_line y (lines_text ys ++ rest) (e ∙ one_more y ys rest))
lines_behind (x ∷ xs) (y ∷ ys) rest p q e =
    let c = cut_at_feed x y (lines_text xs) (lines_text ys ++ rest) p.0.no_feed q.0.no_feed (sym (begins_line x xs) ∙ e ∙ one_more y ys rest) in
    let r = lines_behind xs ys rest p.1 q.1 c.1 in
    record { more = r.more; whole = λ i. c.0 i ∷ r.whole i; left = r.left }
