-- Lines that are taken one after another, and where they lead.
use Rattle.std.proofs.Common.{◌≡◌, ℕ, suc, ◌+◌, ◌-◌, ◌^◌, ◌<◌, List, ◌∷◌, ◌++◌, map, length, Option, Some, None, Result, Ok, Err, inl, inr, IfSome, refl, sym, ap, subst, ◌∙◌, arith, length-append, []}
use Rattle.std.specs.List.{AllByRecursion, flat_map}
use Rattle.std.specs.Result.{IsErrAnd}
use Rattle.std.specs.Io.KnownBytes.{Consumes}
use Rattle.std.proofs.KnownBytes.{Consumes-nil, Consumes-trans}
use Rattle.std.proofs.lemmas.List.{append-nil, map-append}
use Rattle.std.proofs.lemmas.Grind.{flat_map-append}
use Rattle.occ_text.specs.declared.faults.LineFault.{LineFault}
use Rattle.occ_text.specs.declared.faults.LineFault.TheVariants as line_faults
use Rattle.occ_text.specs.declared.faults.ReadFault.{ReadFault}
use Rattle.occ_text.specs.declared.faults.ReadFault.TheVariants as faults
use Rattle.occ_text.specs.Faults.{read_fault}
use Rattle.occ_text.specs.Languages.{Language, LeadsOn, Leads, LeadOn, Unended, Position, point, Took, Stopped, Torn, Uncounted, FailsFrom, FailsAt, TakesFrom, Ended, EndsFrom}
use Rattle.occ_text.specs.Line.{Source, IsLine, BeginsNoLine, CannotStand, NoLine, OtherLine, NoneTaken, IsSpelled, LineGives, lines_text}
use Rattle.occ_text.proofs.Taking.{NoneTaken-narrower}

pub one_line : (line : List ℕ) (a b : Option (List ℕ)) → Consumes a b (line ++ 10 ∷ []) → Consumes a b (lines_text (line ∷ []))
one_line line a b taken = subst (Consumes a b) (sym (append-nil (line ++ 10 ∷ []))) taken

more_lines : (xs ys : List (List ℕ)) (a b c : Option (List ℕ)) → Consumes a b (lines_text xs) → Consumes b c (lines_text ys) → Consumes a c (lines_text (xs ++ ys))
more_lines xs ys a b c p q = subst (Consumes a c) (sym (flat_map-append (λ (l : List ℕ). l ++ 10 ∷ []) xs ys)) (Consumes-trans a b c (lines_text xs) (lines_text ys) p q)

-- a line for each value
pub single_lines : {Y : Type 0} (spell : Y → List ℕ) (ys : List Y) → flat_map (λ (y : Y). spell y ∷ []) ys ≡ map spell ys
single_lines spell [] = refl
single_lines spell (y ∷ ys) = ap (λ (l : List (List ℕ)). spell y ∷ l) (single_lines spell ys)

pub count_more : {Y : Type 0} (ys now : List Y) (y : Y) (n : ℕ) → now ≡ ys ++ y ∷ [] → length ys ≡ n → length now ≡ n + 1
count_more ys now y n is e = ap length is ∙ length-append ys (y ∷ []) ∙ ap (λ (k : ℕ). k + 1) e

-- one more value, as the code has them
pub viewed_more : {X Y : Type 0} (view : X → Y) (xs now : List X) (x : X) → now ≡ xs ++ x ∷ [] → map view now ≡ map view xs ++ view x ∷ []
viewed_more view xs now x is = ap (map view) is ∙ map-append view xs (x ∷ [])

all_more : {Y : Type 0} (P : Y → Type 0) (ys : List Y) (y : Y) → AllByRecursion P ys → P y → AllByRecursion P (ys ++ y ∷ [])
all_more P [] y all p = (p, tt)
all_more P (x ∷ xs) y all p = (all.0, all_more P xs y all.1 p)

one_of : (count counter : ℕ) → counter < count → count - counter ≡ suc (count - (counter + 1))
one_of count counter lt = omega arith

module _ (language : Language) where
  -- lines that lead from a place to another one
  pub record Path (from to : language.Place) (lines : List (List ℕ)) : Type 0 where
    pub leads : LeadOn language from lines to

module _ {language : Language} where
  pub stay : {p : language.Place} → Path language p p []
  stay = record { leads = refl }

  -- one line, and those behind it
  pub on : {p q r : language.Place} {line : List ℕ} {lines : List (List ℕ)} → Leads language p line q → Path language q r lines → Path language p r (line ∷ lines)
  on {q = q} leads path = record { leads = (q, leads, path.leads) }

  -- lines behind lines
  pub along : {p q r : language.Place} {xs ys : List (List ℕ)} → Path language p q xs → Path language q r ys → Path language p r (xs ++ ys)
  along {p} {q} {r} {xs} {ys} path more = record { leads = lead_on xs p path.leads }
    where
      lead_on : (xs : List (List ℕ)) (p : language.Place) → LeadOn language p xs q → LeadOn language p (xs ++ ys) r
      lead_on [] p h = subst (λ (x : language.Place). LeadOn language x ys r) h more.leads
      lead_on (x ∷ xs) p h = (h.0, h.1, lead_on xs h.0 h.2)

  pub none : {p : language.Place} {a : Position} → Took language p p a a []
  none {p} {a} = record { taken = Consumes-nil a.left; leads = refl; number = omega arith }

  -- lines that were taken behind lines
  infixl 60 ◌and◌
  pub ◌and◌ : {p q r : language.Place} {a b c : Position} {xs ys : List (List ℕ)} → Took language p q a b xs → Took language q r b c ys → Took language p r a c (xs ++ ys)
  ◌and◌ {p} {q} {r} {a} {b} {c} {xs} {ys} l k =
      let x = l.number in
      let y = k.number in
      let first : Path language p q xs = record { leads = l.leads } in
      let more : Path language q r ys = record { leads = k.leads } in
      let path = along first more in
      record { taken = more_lines xs ys a.left b.left c.left l.taken k.taken; leads = path.leads; number = omega (arith, length-append xs ys) }

  -- the same lines, spelled otherwise
  pub spelled : {p q : language.Place} {a b : Position} {xs ys : List (List ℕ)} → xs ≡ ys → Took language p q a b xs → Took language p q a b ys
  spelled {p} {q} {a} {b} same l = subst (Took language p q a b) same l

  -- ---- no more lines were taken

  -- lines were taken, and then no more
  pub fails : (fault : ReadFault) {p q : language.Place} {a b : Position} {xs : List (List ℕ)} (c : Option (List ℕ)) → Took language p q a b xs → FailsFrom language fault q b c → FailsFrom language fault p a c
  fails (faults.Malformed number) c l t = record { place = t.place; rest = t.rest; lines = _; took = l and t.took; stuck = t.stuck; unended = t.unended; here = t.here }
  fails faults.Read c l t = record { place = t.place; rest = t.rest; lines = _; took = l and t.took; part = t.part; lost = t.lost; torn = t.torn }
  fails faults.TooManyLines c l t = record { place = t.place; rest = t.rest; lines = _; took = l and t.took; here = t.here }
  fails faults.Memory c l t = tt

  -- the same of places of a kind
  pub fails_at : (IsKind : language.Place → Type 0) (fault : ReadFault) {p q : language.Place} {a b : Position} {xs : List (List ℕ)} (c : Option (List ℕ)) → Took language p q a b xs → FailsAt language IsKind fault q b c → FailsAt language IsKind fault p a c
  fails_at IsKind (faults.Malformed number) c l (t, kind) = (record { place = t.place; rest = t.rest; lines = _; took = l and t.took; stuck = t.stuck; unended = t.unended; here = t.here }, kind)
  fails_at IsKind faults.Read c l (t, kind) = (record { place = t.place; rest = t.rest; lines = _; took = l and t.took; part = t.part; lost = t.lost; torn = t.torn }, kind)
  fails_at IsKind faults.TooManyLines c l (t, kind) = (record { place = t.place; rest = t.rest; lines = _; took = l and t.took; here = t.here }, kind)
  fails_at IsKind faults.Memory c l t = tt

  -- ---- the whole text

  -- the lines of a whole text from a place on, behind lines that lead there
  pub ended : {p q : language.Place} {a b : Position} {xs : List (List ℕ)} → Took language p q a b xs → Ended language q b → Ended language p a
  ended l t = record { place = t.place; rest = t.rest; lines = _; took = l and t.took; may = t.may; whole = t.whole }

  -- a part failed, behind lines that were taken
  pub part_failed : {X : Type 0} {p q : language.Place} {a b : Position} {xs : List (List ℕ)} (fault : ReadFault) (result : Result X ReadFault) (c : Option (List ℕ)) → IsErrAnd result (λ e. e ≡ fault) → Took language p q a b xs → FailsFrom language fault q b c → EndsFrom language result p a c
  part_failed fault (Ok x) c is l t = absurd is
  part_failed {p = p} {a = a} fault (Err e) c is l t = subst (λ f. FailsFrom language f p a c) (sym is) (fails fault c l t)

module _ (language : Language) where
  -- lines that lead on, in two parts
  pub led_apart : (xs ys : List (List ℕ)) (p q : language.Place) → LeadOn language p (xs ++ ys) q → (mid : language.Place) × LeadOn language p xs mid × LeadOn language mid ys q
  led_apart [] ys p q h = (p, refl, h)
  led_apart (x ∷ xs) ys p q h = let r = led_apart xs ys h.0 q h.2 in (r.0, (h.0, h.1, r.1), r.2)

  -- the exit of a `?`
  pub failed : {X : Type 0} (fault : ReadFault) (result : Result X ReadFault) (from : language.Place) (to : X → language.Place) (lines : X → List (List ℕ)) (fits : X → Type 0) (a b : Position)
      → IsErrAnd result (λ e. e ≡ fault) → FailsFrom language fault from a b.left → TakesFrom language result from to lines fits a b
  failed fault (Ok x) from to lines fits a b is t = absurd is
  failed fault (Err e) from to lines fits a b is t = subst (λ f. FailsFrom language f from a b.left) (sym is) t

  -- ---- no line was taken

  unended_by : (rest : Option (List ℕ)) (place : language.Place) → (language.MayEnd place → ⊥) → Unended language rest place
  unended_by None place more = tt
  unended_by (Some bytes) place more = λ ended may. more may

  pub stopped_here : (from : language.Place) (a : Position) (number : ℕ) → Unended language a.left from → CannotStand (LeadsOn language from) a.left → number ≡ a.number + 1 → Stopped language from a number
  stopped_here from a number unended stuck here = record { place = from; rest = a; lines = []; took = none; stuck = stuck; unended = unended; here = here }

  pub torn_here : (from : language.Place) (a : Position) (part : List ℕ) (b : Option (List ℕ)) → IsLine part → Consumes a.left b part → Torn language from a b
  torn_here from a part b torn lost = record { place = from; rest = a; lines = []; took = none; part = part; lost = lost; torn = torn }

  pub uncounted_here : (from : language.Place) (a : Position) → a.number ≡ 2 ^ 64 - 1 → Uncounted language from a
  uncounted_here from a all = record { place = from; rest = a; lines = []; took = none; here = all }

  -- where a line stands, a text doesn't end
  pub more_to_come : (place : language.Place) (bytes : List ℕ) (a b : Option (List ℕ)) → Consumes a b (bytes ++ 10 ∷ []) → Unended language a place
  more_to_come place bytes None b taken = tt
  more_to_come place bytes (Some x) None taken = absurd taken
  more_to_come place bytes (Some x) (Some y) taken = λ ended may.
      let n : length x ≡ 0 = ap length ended in
      let m : length x ≡ length (bytes ++ 10 ∷ []) + length y = ap length taken ∙ length-append (bytes ++ 10 ∷ []) y in
      absurd (omega (arith, length-append bytes (10 ∷ [])))

  -- a line stands there that isn't one that leads on
  pub line_refused : (from : language.Place) (bytes : List ℕ) (a b : Option (List ℕ)) (first last number : ℕ) → Consumes a b (bytes ++ 10 ∷ []) × (last ≡ first + 1) × IsLine bytes → (LeadsOn language from bytes → ⊥) → number ≡ last → Stopped language from (point a first) number
  line_refused from bytes a b first last number taken other here = stopped_here from (point a first) number (more_to_come from bytes a b taken.0) (OtherLine bytes b taken.0 taken.2 other) (here ∙ taken.1)

  -- no line of a kind was taken, and none of another kind leads on
  pub none_fails : (IsKind : List ℕ → Type 0) (fault : ReadFault) (from : language.Place) (a b : Option (List ℕ)) (first : ℕ) → (language.MayEnd from → ⊥) → ((bytes : List ℕ) → LeadsOn language from bytes → IsKind bytes) → NoneTaken IsKind fault a b first
      → FailsFrom language fault from (point a first) b
  none_fails IsKind (faults.Malformed number) from a b first more only t =
      let other = NoneTaken-narrower IsKind (LeadsOn language from) (faults.Malformed number) a b first only t in
      stopped_here from (point a first) number (unended_by a from more) other.0 other.1
  none_fails IsKind faults.Read from a b first more only t = torn_here from (point a first) t.0 b t.1 t.2
  none_fails IsKind faults.TooManyLines from a b first more only t = uncounted_here from (point a first) t
  none_fails IsKind faults.Memory from a b first more only t = tt

  -- the same at a place of a kind
  pub line_refused_at : (IsKind : language.Place → Type 0) (from : language.Place) (bytes : List ℕ) (a b : Option (List ℕ)) (first last number : ℕ) → Consumes a b (bytes ++ 10 ∷ []) × (last ≡ first + 1) × IsLine bytes → IsKind from
      → (LeadsOn language from bytes → ⊥) → number ≡ last → FailsAt language IsKind (faults.Malformed number) from (point a first) b
  line_refused_at IsKind from bytes a b first last number taken kind other here =
      (record { place = from; rest = point a first; lines = []; took = none; stuck = OtherLine bytes b taken.0 taken.2 other; unended = more_to_come from bytes a b taken.0; here = here ∙ taken.1 }, kind)

  pub none_fails_at : (IsKind : language.Place → Type 0) (IsOther : List ℕ → Type 0) (fault : ReadFault) (from : language.Place) (a b : Option (List ℕ)) (first : ℕ) → IsKind from → (language.MayEnd from → ⊥)
      → ((bytes : List ℕ) → LeadsOn language from bytes → IsOther bytes) → NoneTaken IsOther fault a b first → FailsAt language IsKind fault from (point a first) b
  none_fails_at IsKind IsOther (faults.Malformed number) from a b first kind more only t =
      let other = NoneTaken-narrower IsOther (LeadsOn language from) (faults.Malformed number) a b first only t in
      (record { place = from; rest = point a first; lines = []; took = none; stuck = other.0; unended = unended_by a from more; here = other.1 }, kind)
  none_fails_at IsKind IsOther faults.Read from a b first kind more only t = (record { place = from; rest = point a first; lines = []; took = none; part = t.0; lost = t.2; torn = t.1 }, kind)
  none_fails_at IsKind IsOther faults.TooManyLines from a b first kind more only t = (record { place = from; rest = point a first; lines = []; took = none; here = t }, kind)
  none_fails_at IsKind IsOther faults.Memory from a b first kind more only t = tt

  -- ---- one line of the grammar of a place

  pub next_taken : {a b : Option (List ℕ)} {first last : ℕ} (from : language.Place) (told : (language.grammar from).Told) → Consumes a b ((language.grammar from).spell told ++ 10 ∷ []) × (language.grammar from).fits told × (last ≡ first + 1)
      → Took language from ((language.grammar from).to told) (point a first) (point b last) ((language.grammar from).spell told ∷ []) × (language.grammar from).fits told
  next_taken {a} {b} from told t = (record { taken = one_line ((language.grammar from).spell told) a b t.0; leads = ((language.grammar from).to told, (told, t.1, refl, refl), refl); number = t.2 }, t.1)

  pub next_fails : (from : language.Place) (fault : ReadFault) (a b : Option (List ℕ)) (first : ℕ) → (language.MayEnd from → ⊥) → NoneTaken (IsSpelled (language.grammar from).spell (language.grammar from).fits) fault a b first → FailsFrom language fault from (point a first) b
  next_fails from fault a b first more t = none_fails (IsSpelled (language.grammar from).spell (language.grammar from).fits) fault from a b first more (λ line leads. (leads.1.0, leads.1.1, leads.1.2)) t

  -- ---- no line at all

  -- where no line stands, a text doesn't end
  pub torn_or_long : (place : language.Place) (a : Option (List ℕ)) → IfSome a BeginsNoLine → Unended language a place
  torn_or_long place None none = tt
  torn_or_long place (Some x) none = λ ended may.
      let n : length x ≡ 0 = ap length ended in
      let m : length x ≡ length none.front + length none.rest = ap length none.parts ∙ length-append none.front none.rest in
      elim none.long_or_torn [
        | inl long ↦ absurd (omega (arith, long))
        | inr torn ↦ let some = torn.0 in absurd (omega arith)
      ]

  -- no line was taken at a place
  pub next_line_fails : (fault : LineFault) (place : language.Place) (a b : Option (List ℕ)) (old new : Source) → LineGives (Err fault) a b old new → FailsFrom language (read_fault fault) place (point a old.number) b
  next_line_fails (line_faults.Malformed number) place a b old new t = stopped_here place (point a old.number) number (torn_or_long place a t.0) (NoLine t.0) t.1
  next_line_fails line_faults.Read place a b old new t = torn_here place (point a old.number) t.0 b t.1 t.2
  next_line_fails line_faults.TooManyLines place a b old new t = uncounted_here place (point a old.number) t.1

  -- ---- so many of a kind, one after another

  -- the lines of some values were taken, each of which fits
  pub record Gathered {Y : Type 0} (lines : Y → List (List ℕ)) (fits : Y → Type 0) (from to : language.Place) (a b : Position) (ys : List Y) : Type 0 where
    pub took : Took language from to a b (flat_map lines ys)
    pub fit : AllByRecursion fits ys

  -- none of them yet
  pub gathered_none : {Y : Type 0} {a : Position} (lines : Y → List (List ℕ)) (fits : Y → Type 0) (at : List Y → ℕ → language.Place) (ys : List Y) (count : ℕ) → ys ≡ [] → Gathered lines fits (at [] count) (at ys (count - 0)) a a ys
  gathered_none {a = a} lines fits at ys count is =
      let m : count ≡ count - 0 = omega arith in
      subst (λ l. Gathered lines fits (at [] count) (at l (count - 0)) a a l) (sym is) (subst (λ k. Gathered lines fits (at [] count) (at [] k) a a []) m (record { took = none; fit = tt }))

  -- one more of them
  pub gathered_more : {Y : Type 0} {lines : Y → List (List ℕ)} {fits : Y → Type 0} {p r : language.Place} {a b c : Position} (at : ℕ → language.Place) (ys now : List Y) (y : Y) (count counter : ℕ) → counter < count → now ≡ ys ++ y ∷ []
      → Gathered lines fits p (at (count - counter)) a b ys → Took language (at (suc (count - (counter + 1)))) r b c (lines y) × fits y → Gathered lines fits p r a c now
  gathered_more {lines = lines} {fits = fits} {p = p} {r = r} {a = a} {b = b} {c = c} at ys now y count counter lt is so_far next =
      let before = subst (λ k. Took language p (at k) a b (flat_map lines ys)) (one_of count counter lt) so_far.took in
      let all : flat_map lines ys ++ lines y ≡ flat_map lines (ys ++ y ∷ []) = sym (flat_map-append lines ys (y ∷ []) ∙ ap (λ (l : List (List ℕ)). flat_map lines ys ++ l) (append-nil (lines y))) in
      subst (Gathered lines fits p r a c) (sym is) (record { took = spelled all (before and next.0); fit = all_more fits ys y so_far.fit next.1 })

  -- no more of them
  pub gathered_fails : {Y : Type 0} {lines : Y → List (List ℕ)} {fits : Y → Type 0} {p : language.Place} {a b : Position} {ys : List Y} (fault : ReadFault) (c : Option (List ℕ)) (at : ℕ → language.Place) (count counter : ℕ) → counter < count
      → Gathered lines fits p (at (count - counter)) a b ys → FailsFrom language fault (at (suc (count - (counter + 1)))) b c → FailsFrom language fault p a c
  gathered_fails {lines = lines} {p = p} {a = a} {b = b} {ys = ys} fault c at count counter lt so_far t = fails fault c (subst (λ k. Took language p (at k) a b (flat_map lines ys)) (one_of count counter lt) so_far.took) t

  -- all of them
  pub gathered_all : {Y : Type 0} {lines : Y → List (List ℕ)} {fits : Y → Type 0} {p : language.Place} {a b : Position} {ys : List Y} (at : ℕ → language.Place) (count counter : ℕ) → counter ≡ count → length ys ≡ counter
      → Gathered lines fits p (at (count - counter)) a b ys → Took language p (at 0) a b (flat_map lines ys) × (AllByRecursion fits ys × (length ys ≡ count))
  gathered_all {lines = lines} {p = p} {a = a} {b = b} {ys = ys} at count counter is long so_far =
      let n : count - counter ≡ 0 = omega arith in
      (subst (λ k. Took language p (at k) a b (flat_map lines ys)) n so_far.took, (so_far.fit, long ∙ is))
