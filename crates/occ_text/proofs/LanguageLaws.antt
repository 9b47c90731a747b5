-- The laws of a language: where each line leads to one place, so do many, and a text is malformed at one line at most.
use Rattle.std.proofs.Common.{◌≡◌, ℕ, ◌^◌, ◌<◌, ◌≤◌, List, [], ◌∷◌, ◌++◌, length, Option, Some, None, ◌⊎◌, inl, inr, refl, sym, ap, subst, ◌∙◌, arith, length-append, append_assoc}
use Rattle.std.specs.List.{AllByRecursion}
use Rattle.std.specs.Io.KnownBytes.{Consumes, IsAtEnd}
use Rattle.occ_text.specs.Spelling.{IsToken}
use Rattle.occ_text.specs.Reading.{Reads}
use Rattle.occ_text.specs.Fields.{Field, line_of}
use Rattle.occ_text.specs.Headers.{Within}
use Rattle.occ_text.specs.Languages.{Grammar, Language, lines_of, counts_of, Leads, LeadsOn, LeadOn, Unended, point, Stopped}
use Rattle.occ_text.specs.Line.{IsLine, CannotStand, AtEnd, NoLine, OtherLine, lines_text}
use Rattle.occ_text.proofs.Escapes.{some_is}
use Rattle.occ_text.proofs.Fields.{IsField, field_reads, field_is_line}
use Rattle.occ_text.proofs.HeaderLines.{count_is_line, count_reads}
use Rattle.occ_text.proofs.LinesTaken.{led_apart}
use Rattle.occ_text.proofs.TextLines.{cut_at_feed, within_line, one_more, begins_line, nothing_is_no_line, lines_behind}

-- ---- what holds of the lines of each place

-- each is a line, leads to one place, and what holds of a place holds of the next one
pub record IsRight {Place : Type 0} (Sound : Place → Type 0) (g : Grammar Place) : Type 0 where
  pub alone : (told : g.Told) → g.fits told → IsLine (g.spell told)
  pub one : (told other : g.Told) → g.fits told → g.fits other → g.spell told ≡ g.spell other → g.to told ≡ g.to other
  pub sound : (told : g.Told) → g.fits told → Sound (g.to told)

module _ {Place : Type 0} {Sound : Place → Type 0} where
  -- lines that are read again, each of which tells more than it has to
  pub by_reading : {Y : Type 0} {spell : Y → List ℕ} {wide fits : Y → Type 0} {to : Y → Place} {read : List ℕ → Option Y} → ((line : List ℕ) → Reads spell wide line (read line)) → ((y : Y) → fits y → IsLine (spell y))
      → ((y : Y) → fits y → wide y) → ((y : Y) → fits y → Sound (to y)) → IsRight Sound (lines_of spell fits to)
  by_reading {spell = spell} {to = to} reads alone weaker sound = record {
    alone = alone;
    one = λ x y f g e. let again = reads (spell x) in ap to (some_is x y (sym (again.again x (weaker x f) refl) ∙ again.again y (weaker y g) e));
    sound = sound;
  }

  pub by_field : {Y : Type 0} {field : Field Y} {most : Y → ℕ} {fits : Y → Type 0} {to : Y → Place} → IsField field most → ((y : Y) → most y ≤ 8192) → ((y : Y) → fits y → field.fits y) → ((y : Y) → fits y → Sound (to y))
      → IsRight Sound (lines_of (line_of field) fits to)
  by_field is short weaker sound = by_reading (λ line. field_reads is refl) (λ y f. field_is_line y is (short y) (weaker y f)) weaker sound

  pub by_count : {to : ℕ → Place} (word : List ℕ) (least most : ℕ) → IsToken word → length word ≤ 100 → most < 2 ^ 64 → ((n : ℕ) → Within least most n → Sound (to n)) → IsRight Sound (counts_of word least most to)
  by_count word least most token few small sound =
      by_reading (λ line. count_reads word least most line _ small token refl) (λ n within. count_is_line word least most n token few small within) (λ n within. within) sound

-- ---- so it is of the lines that lead on

module _ (language : Language) (Sound : language.Place → Type 0) (each_right : (p : language.Place) → Sound p → IsRight Sound (language.grammar p)) where
  is_line : (p q : language.Place) (line : List ℕ) → Sound p → Leads language p line q → IsLine line
  is_line p q line s h = let right = each_right p s in subst IsLine (sym h.2) (right.alone h.0 h.1)

  only_next : (p q r : language.Place) (line : List ℕ) → Sound p → Leads language p line q → Leads language p line r → q ≡ r
  only_next p q r line s h k = let right = each_right p s in h.3 ∙ right.one h.0 k.0 h.1 k.1 (sym h.2 ∙ k.2) ∙ sym k.3

  sound_next : (p q : language.Place) (line : List ℕ) → Sound p → Leads language p line q → Sound q
  sound_next p q line s h = let right = each_right p s in subst Sound (sym h.3) (right.sound h.0 h.1)

  pub sound_on : (lines : List (List ℕ)) (p q : language.Place) → Sound p → LeadOn language p lines q → Sound q
  sound_on [] p q s h = subst Sound (sym h) s
  sound_on (line ∷ lines) p q s h = sound_on lines h.0 q (sound_next p h.0 line s h.1) h.2

  pub only_place : (lines : List (List ℕ)) (p q r : language.Place) → Sound p → LeadOn language p lines q → LeadOn language p lines r → q ≡ r
  only_place [] p q r s h k = h ∙ sym k
  only_place (line ∷ lines) p q r s h k =
      let same = only_next p h.0 k.0 line s h.1 k.1 in
      only_place lines h.0 q r (sound_next p h.0 line s h.1) h.2 (subst (λ (x : language.Place). LeadOn language x lines r) (sym same) k.2)

  are_lines : (lines : List (List ℕ)) (p q : language.Place) → Sound p → LeadOn language p lines q → AllByRecursion IsLine lines
  are_lines [] p q s h = tt
  are_lines (line ∷ lines) p q s h = (is_line p h.0 line s h.1, are_lines lines h.0 q (sound_next p h.0 line s h.1) h.2)

  -- ---- no text that leads to where it may end is malformed

  -- a line that leads on may stand
  can_stand : (place next : language.Place) (line more rest : List ℕ) → IsLine line → Leads language place line next → rest ≡ line ++ 10 ∷ more → CannotStand (LeadsOn language place) (Some rest) → ⊥
  can_stand place next line more rest alone leads is (AtEnd ended) = nothing_is_no_line line more (sym ended ∙ is)
  can_stand place next line more rest alone leads is (NoLine none) = by none.long_or_torn
    where
      by : (8192 < length none.front) ⊎ ((0 < length none.front) × (none.rest ≡ [])) → ⊥
      by (inl long) =
          let n = within_line none.front none.rest line more none.no_feed (sym none.parts ∙ is) in
          let short = alone.short in
          absurd (omega arith)
      by (inr torn) =
          let n = within_line none.front none.rest line more none.no_feed (sym none.parts ∙ is) in
          let e = ap length (sym none.parts ∙ is) in
          let f = ap length torn.1 in
          absurd (omega (arith, length-append none.front none.rest, length-append line (10 ∷ more)))
  can_stand place next line more rest alone leads is (OtherLine other None taken single never) = absurd taken
  can_stand place next line more rest alone leads is (OtherLine other (Some after) taken single never) =
      let c = cut_at_feed line other more after alone.no_feed single.no_feed (sym is ∙ taken ∙ append_assoc other (10 ∷ []) after) in
      never (next, subst (λ (l : List ℕ). Leads language place l next) c.0 leads)

  pub never_stops : (lines : List (List ℕ)) (p to : language.Place) → Sound p → LeadOn language p lines to → language.MayEnd to → (first number : ℕ) → Stopped language p (point (Some (lines_text lines)) first) number → ⊥
  never_stops lines p to s led may first number h = by h.rest.left h.took.taken h.stuck h.unended
    where
      after : (place : language.Place) (more : List (List ℕ)) (rest : List ℕ) → Sound place → LeadOn language place more to → rest ≡ lines_text more → CannotStand (LeadsOn language place) (Some rest) → (IsAtEnd (Some rest) → language.MayEnd place → ⊥) → ⊥
      after place [] rest sound leads is stuck unended = unended is (subst language.MayEnd leads may)
      after place (line ∷ more) rest sound leads is stuck unended =
          can_stand place leads.0 line (lines_text more) rest (is_line place leads.0 line sound leads.1) leads.1 (is ∙ begins_line line more) stuck

      by : (rest : Option (List ℕ)) → Consumes (Some (lines_text lines)) rest (lines_text h.lines) → CannotStand (LeadsOn language h.place) rest → Unended language rest h.place → ⊥
      by None taken stuck unended = absurd taken
      by (Some rest) taken stuck unended =
          let b = lines_behind lines h.lines rest (are_lines lines p to s led) (are_lines h.lines p h.place s h.took.leads) taken in
          let parts = led_apart language h.lines b.more p to (subst (λ (l : List (List ℕ)). LeadOn language p l to) b.whole led) in
          let here = only_place h.lines p parts.0 h.place s parts.1 h.took.leads in
          after h.place b.more rest (sound_on h.lines p h.place s h.took.leads) (subst (λ (x : language.Place). LeadOn language x b.more to) here parts.2) b.left stuck unended

  -- ---- a text is malformed at one line at most

  -- lines of one text that lead to where nothing can stand are as many as others that do
  at_one_line : (xs ys : List (List ℕ)) (x y : List ℕ) (p q r : language.Place) → Sound p → LeadOn language p xs q → LeadOn language p ys r → lines_text xs ++ x ≡ lines_text ys ++ y → CannotStand (LeadsOn language q) (Some x) → CannotStand (LeadsOn language r) (Some y) → length xs ≡ length ys
  at_one_line [] [] x y p q r s h k e stuck other = refl
  at_one_line [] (line ∷ ys) x y p q r s h k e stuck other =
      absurd (can_stand p k.0 line (lines_text ys ++ y) x (is_line p k.0 line s k.1) k.1 (e ∙ one_more line ys y) (subst (λ (z : language.Place). CannotStand (LeadsOn language z) (Some x)) h stuck))
  at_one_line (line ∷ xs) [] x y p q r s h k e stuck other =
      absurd (can_stand p h.0 line (lines_text xs ++ x) y (is_line p h.0 line s h.1) h.1 (sym e ∙ one_more line xs x) (subst (λ (z : language.Place). CannotStand (LeadsOn language z) (Some y)) k other))
  at_one_line (line ∷ xs) (next ∷ ys) x y p q r s h k e stuck other =
      let first = is_line p h.0 line s h.1 in
      let second = is_line p k.0 next s k.1 in
      let c = cut_at_feed line next (lines_text xs ++ x) (lines_text ys ++ y) first.no_feed second.no_feed (sym (one_more line xs x) ∙ e ∙ one_more next ys y) in
      let same = only_next p k.0 h.0 next s k.1 (subst (λ (l : List ℕ). Leads language p l h.0) c.0 h.1) in
      let n = at_one_line xs ys x y h.0 q r (sound_next p h.0 line s h.1) h.2 (subst (λ (z : language.Place). LeadOn language z ys r) same k.2) c.1 stuck other in
      omega arith

  pub stops_once : (p : language.Place) → Sound p → (text : List ℕ) (number other : ℕ) → Stopped language p (point (Some text) 0) number → Stopped language p (point (Some text) 0) other → number ≡ other
  stops_once p s text number other h k = by h.rest.left k.rest.left h.took.taken k.took.taken h.stuck k.stuck
    where
      by : (a b : Option (List ℕ)) → Consumes (Some text) a (lines_text h.lines) → Consumes (Some text) b (lines_text k.lines) → CannotStand (LeadsOn language h.place) a → CannotStand (LeadsOn language k.place) b → number ≡ other
      by None b taken too stuck again = absurd taken
      by (Some x) None taken too stuck again = absurd too
      by (Some x) (Some y) taken too stuck again =
          let same = at_one_line h.lines k.lines x y p h.place k.place s h.took.leads k.took.leads (sym taken ∙ too) stuck again in
          let m = h.took.number in
          let n = k.took.number in
          let u = h.here in
          let v = k.here in
          omega arith
