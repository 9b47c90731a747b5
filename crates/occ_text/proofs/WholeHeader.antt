-- The first lines of a schedule or a book, and the line at which there is none of them.
use Rattle.std.proofs.Common.{◌≡◌, ℕ, ◌+◌, ◌<◌, ◌≤◌, List, [], ◌∷◌, ◌++◌, length, Option, Result, Ok, Err, refl, sym, ap, subst, arith, length-append}
use Rattle.std.specs.Prelude.{codes}
use Rattle.std.specs.Result.{IsErrAnd}
use Rattle.std.specs.Io.KnownBytes.{Consumes}
use Rattle.std.proofs.KnownBytes.{Consumes-nil}
use Rattle.occ_text.specs.declared.headers.Limits.{Limits}
use Rattle.occ_text.specs.declared.versions.Version.{Version}
use Rattle.occ_text.specs.declared.versions.Version.TheVariants.{One}
use Rattle.occ_text.specs.declared.faults.LineFault.{LineFault}
use Rattle.occ_text.specs.Faults.{read_fault}
use Rattle.occ_text.specs.Headers.{Within, LimitsFit, limits_lines, version_text, count_text}
use Rattle.occ_text.specs.Line.{NoneTaken, IsSpelled, lines_text}
use Rattle.occ_text.specs.HeaderTaking.{BeginsLimits, LimitsTaken}
use Rattle.occ_text.proofs.SchemaLines.{first_line, later_lines}
use Rattle.occ_text.proofs.Taking.{NoneTaken-narrower, taken_more}

-- ---- limits that begin so

abbrev pub of_counts : Version → ℕ → ℕ → ℕ → Limits
of_counts v s q k = record { version = v; sessions = s; queue = q; keep = k }

fits_with : (v : Version) (s q k : ℕ) → Within 1 64 s → Within 1 1024 q → Within 1 4096 k → LimitsFit (of_counts v s q k)
fits_with v s q k sf qf kf = record { sessions = sf; queue = qf; keep = kf }

one_within : (most : ℕ) → 1 ≤ most → Within 1 most 1
one_within most le = record { least_count = omega arith; most_count = le }

abbrev pub session_line : ℕ → List ℕ
session_line s = count_text (codes "sessions") s

abbrev pub queue_line : ℕ → List ℕ
queue_line q = count_text (codes "queue") q

abbrev pub keep_line : ℕ → List ℕ
keep_line k = count_text (codes "keep") k

pub begins_4 : (v : Version) (s q k : ℕ) → Within 1 64 s → Within 1 1024 q → Within 1 4096 k → BeginsLimits (version_text v ∷ session_line s ∷ queue_line q ∷ keep_line k ∷ [])
begins_4 v s q k sf qf kf = (of_counts v s q k, fits_with v s q k sf qf kf, [], refl)

pub begins_3 : (v : Version) (s q : ℕ) → Within 1 64 s → Within 1 1024 q → BeginsLimits (version_text v ∷ session_line s ∷ queue_line q ∷ [])
begins_3 v s q sf qf = (of_counts v s q 1, fits_with v s q 1 sf qf (one_within 4096 (omega arith)), keep_line 1 ∷ [], refl)

pub begins_2 : (v : Version) (s : ℕ) → Within 1 64 s → BeginsLimits (version_text v ∷ session_line s ∷ [])
begins_2 v s sf = (of_counts v s 1 1, fits_with v s 1 1 sf (one_within 1024 (omega arith)) (one_within 4096 (omega arith)), queue_line 1 ∷ keep_line 1 ∷ [], refl)

pub begins_1 : (v : Version) → BeginsLimits (version_text v ∷ [])
begins_1 v =
    (of_counts v 1 1 1, fits_with v 1 1 1 (one_within 64 (omega arith)) (one_within 1024 (omega arith)) (one_within 4096 (omega arith)), session_line 1 ∷ queue_line 1 ∷ keep_line 1 ∷ [], refl)

begins_0 : BeginsLimits []
begins_0 = let one = begins_1 One in (one.0, one.1, limits_lines one.0, refl)

-- ---- the lines that were taken

-- lines were taken that limits begin with
pub record Behind (lines : List (List ℕ)) (a b : Option (List ℕ)) (first last : ℕ) : Type 0 where
  pub taken : Consumes a b (lines_text lines)
  pub number : last ≡ first + length lines

behind_more : (lines : List (List ℕ)) (line : List ℕ) (a b c : Option (List ℕ)) (first mid last : ℕ) → Behind lines a b first mid → Consumes b c (line ++ 10 ∷ []) → last ≡ mid + 1 → Behind (lines ++ line ∷ []) a c first last
behind_more lines line a b c first mid last so_far taken number =
    let before = so_far.number in
    record { taken = taken_more lines line a b c so_far.taken taken; number = omega (arith, length-append lines (line ∷ [])) }

abbrev pub TookVersion : Version → Option (List ℕ) → Option (List ℕ) → ℕ → ℕ → Type 0
TookVersion v a b first last = Consumes a b (version_text v ++ 10 ∷ []) × Unit {0} × (last ≡ first + 1)

abbrev pub Took : List ℕ → ℕ → ℕ → Option (List ℕ) → Option (List ℕ) → ℕ → ℕ → Type 0
Took word most n a b first last = Consumes a b (count_text word n ++ 10 ∷ []) × Within 1 most n × (last ≡ first + 1)

behind_0 : (a : Option (List ℕ)) (first : ℕ) → Behind [] a a first first
behind_0 a first = record { taken = Consumes-nil a; number = omega arith }

behind_1 : (v : Version) (a b : Option (List ℕ)) (n0 n1 : ℕ) → TookVersion v a b n0 n1 → Behind (version_text v ∷ []) a b n0 n1
behind_1 v a b n0 n1 vt = behind_more [] (version_text v) a a b n0 n0 n1 (behind_0 a n0) vt.0 vt.2

behind_2 : (v : Version) (a b c : Option (List ℕ)) (s n0 n1 n2 : ℕ) → TookVersion v a b n0 n1 → Took (codes "sessions") 64 s b c n1 n2 → Behind (version_text v ∷ session_line s ∷ []) a c n0 n2
behind_2 v a b c s n0 n1 n2 vt st = behind_more (version_text v ∷ []) (session_line s) a b c n0 n1 n2 (behind_1 v a b n0 n1 vt) st.0 st.2

behind_3 : (v : Version) (a b c d : Option (List ℕ)) (s q n0 n1 n2 n3 : ℕ) → TookVersion v a b n0 n1 → Took (codes "sessions") 64 s b c n1 n2 → Took (codes "queue") 1024 q c d n2 n3 → Behind (version_text v ∷ session_line s ∷ queue_line q ∷ []) a d n0 n3
behind_3 v a b c d s q n0 n1 n2 n3 vt st qt = behind_more (version_text v ∷ session_line s ∷ []) (queue_line q) a c d n0 n2 n3 (behind_2 v a b c s n0 n1 n2 vt st) qt.0 qt.2

pub limits_taken : (v : Version) (a b c d e : Option (List ℕ)) (s q k n0 n1 n2 n3 n4 : ℕ) → TookVersion v a b n0 n1 → Took (codes "sessions") 64 s b c n1 n2 → Took (codes "queue") 1024 q c d n2 n3 → Took (codes "keep") 4096 k d e n3 n4
    → Consumes a e (lines_text (limits_lines (of_counts v s q k))) × LimitsFit (of_counts v s q k) × (n4 ≡ n0 + 4)
limits_taken v a b c d e s q k n0 n1 n2 n3 n4 vt st qt kt =
    let all = behind_more (version_text v ∷ session_line s ∷ queue_line q ∷ []) (keep_line k) a d e n0 n3 n4 (behind_3 v a b c d s q n0 n1 n2 n3 vt st qt) kt.0 kt.2 in
    (all.taken, fits_with v s q k st.1 qt.1 kt.1, all.number)

-- ---- the limits' ends

-- no line of a kind was taken behind some lines that begin limits, and only one of that kind can stand there
limits_stop : (IsKind : List ℕ → Type 0) (fault : LineFault) (result : Result Limits LineFault) (lines : List (List ℕ)) (a b c : Option (List ℕ)) (first mid last : ℕ) → IsErrAnd result (λ e. e ≡ fault) → NoneTaken IsKind (read_fault fault) b c mid
    → Behind lines a b first mid → BeginsLimits lines → length lines < 4 → ((line : List ℕ) → BeginsLimits (lines ++ line ∷ []) → IsKind line) → LimitsTaken result a c first last
limits_stop IsKind fault (Ok limits) lines a b c first mid last is t so_far begins few kind = absurd is
limits_stop IsKind fault (Err e) lines a b c first mid last is t so_far begins few kind =
    let Next : List ℕ → Type 0 = λ line. BeginsLimits (lines ++ line ∷ []) in (
      lines,
      b,
      so_far.taken,
      begins,
      few,
      subst (λ (f : LineFault). NoneTaken Next (read_fault f) b c (first + length lines)) (sym is) (subst (NoneTaken Next (read_fault fault) b c) so_far.number (NoneTaken-narrower IsKind Next (read_fault fault) b c mid kind t)),
    )

pub end_version : (fault : LineFault) (result : Result Limits LineFault) (a b : Option (List ℕ)) (n0 n1 : ℕ) → IsErrAnd result (λ e. e ≡ fault)
    → NoneTaken (IsSpelled version_text (λ version. Unit {0})) (read_fault fault) a b n0 → LimitsTaken result a b n0 n1
end_version fault result a b n0 n1 is t =
    limits_stop (IsSpelled version_text (λ version. Unit {0})) fault result [] a a b n0 n0 n1 is t (behind_0 a n0) begins_0 (omega arith)
    (λ line g. (g.0.version, tt, sym (ap first_line g.3)))

pub end_sessions : (v : Version) (fault : LineFault) (result : Result Limits LineFault) (a b c : Option (List ℕ)) (n0 n1 n2 : ℕ) → IsErrAnd result (λ e. e ≡ fault) → TookVersion v a b n0 n1
    → NoneTaken (IsSpelled session_line (Within 1 64)) (read_fault fault) b c n1 → LimitsTaken result a c n0 n2
end_sessions v fault result a b c n0 n1 n2 is vt t =
    limits_stop (IsSpelled session_line (Within 1 64)) fault result (version_text v ∷ []) a b c n0 n1 n2 is t (behind_1 v a b n0 n1 vt) (begins_1 v) (omega arith)
    (λ line g. (g.0.sessions, g.1.sessions, sym (ap (λ (l : List (List ℕ)). first_line (later_lines l)) g.3)))

pub end_queue : (v : Version) (fault : LineFault) (result : Result Limits LineFault) (a b c d : Option (List ℕ)) (s n0 n1 n2 n3 : ℕ) → IsErrAnd result (λ e. e ≡ fault) → TookVersion v a b n0 n1 → Took (codes "sessions") 64 s b c n1 n2
    → NoneTaken (IsSpelled queue_line (Within 1 1024)) (read_fault fault) c d n2 → LimitsTaken result a d n0 n3
end_queue v fault result a b c d s n0 n1 n2 n3 is vt st t =
    limits_stop (IsSpelled queue_line (Within 1 1024)) fault result (version_text v ∷ session_line s ∷ []) a c d n0 n2 n3 is t (behind_2 v a b c s n0 n1 n2 vt st) (begins_2 v s st.1) (omega arith)
    (λ line g. (g.0.queue, g.1.queue, sym (ap (λ (l : List (List ℕ)). first_line (later_lines (later_lines l))) g.3)))

pub end_keep : (v : Version) (fault : LineFault) (result : Result Limits LineFault) (a b c d e : Option (List ℕ)) (s q n0 n1 n2 n3 n4 : ℕ) → IsErrAnd result (λ e. e ≡ fault) → TookVersion v a b n0 n1 → Took (codes "sessions") 64 s b c n1 n2 → Took (codes "queue") 1024 q c d n2 n3
    → NoneTaken (IsSpelled keep_line (Within 1 4096)) (read_fault fault) d e n3 → LimitsTaken result a e n0 n4
end_keep v fault result a b c d e s q n0 n1 n2 n3 n4 is vt st qt t =
    limits_stop (IsSpelled keep_line (Within 1 4096)) fault result (version_text v ∷ session_line s ∷ queue_line q ∷ []) a d e n0 n3 n4 is t (behind_3 v a b c d s q n0 n1 n2 n3 vt st qt) (begins_3 v s q st.1 qt.1) (omega arith)
    (λ line g. (g.0.keep, g.1.keep, sym (ap (λ (l : List (List ℕ)). first_line (later_lines (later_lines (later_lines l)))) g.3)))
