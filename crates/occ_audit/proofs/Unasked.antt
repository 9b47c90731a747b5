-- What is held of an open row makes no difference to the claim on a log.
use Rattle.std.proofs.Common.{◌≡◌, true, ℕ, Bool, cond, List, [], ◌∷◌, length, refl, sym, ap, subst, ◌∙◌, ◌+◌, map, Decides, ◌==◌, nat_cmp}
use Rattle.occ_audit.proofs.Common.{AreAnswers, FinMap, State, Write, apply, Case, Base, Audited, Explained, Counts, numbers, is_committed, remaining, rest, after, serial, settled, last_folded, unasked}
use Rattle.occ_sets.specs.LogRows.{standing_of, log_row_of, log_of}
use Rattle.occ_sets.specs.declared.log_rows.Standing as code_standing
use Rattle.occ_sets.specs.declared.log_rows.Standing.TheVariants as standings
use Rattle.occ_sets.specs.declared.log_rows.LogRow as code_row
use Rattle.occ_audit.specs.Rows as rows
use Rattle.occ_audit.proofs.Orders.{numbers-cons, places}

module _ {O : Type 0} (a b : O → ℕ × Case) where
  same-standing : (writes : List Write) (standing : code_standing.Standing O) → (is_committed (standing_of a standing) ≡ is_committed (standing_of b standing)) × (remaining writes (standing_of a standing) ≡ remaining writes (standing_of b standing))
  same-standing writes (standings.Open held) = (refl, refl)
  same-standing writes standing = (refl, refl)

-- a fold that takes two views of each element alike takes those of a list alike
same-folded {ℓ} : {X Y : Type 0} {Z : Type ℓ} (F : List Y → Z) (h : Y → Z → Z) (a b : X → Y) → F [] ≡ F [] → ((y : Y) (ys : List Y) → F (y ∷ ys) ≡ h y (F ys)) → ((x : X) (z : Z) → h (a x) z ≡ h (b x) z) → (xs : List X) → F (map a xs) ≡ F (map b xs)
same-folded F h a b none steps alike [] = none
same-folded F h a b none steps alike (x ∷ xs) =
    steps (a x) (map a xs) ∙ ap (h (a x)) (same-folded F h a b none steps alike xs) ∙ alike x (F (map b xs)) ∙ sym (steps (b x) (map b xs))

module _ {Z O : Type 0} (a b : O → ℕ × Case) where
  same-after : (state : State) (row : code_row.LogRow Z O) → after state (log_row_of a row) ≡ after state (log_row_of b row)
  same-after state row = ap (λ t. cond t (apply state row.writes) state) (same-standing a b row.writes row.standing).0

  same-audited : (base : Base) (marks : FinMap nat_cmp ℕ) (table : State) (log : List (code_row.LogRow Z O)) → Audited base marks table (log_of a log) → Audited base marks table (log_of b log)
  same-audited base marks table log audited =
      let counted = λ (session : ℕ). same-folded (numbers session) (λ row ns. cond (row.session == session) (row.number ∷ ns) ns) (log_row_of a) (log_row_of b) refl (numbers-cons session) (λ row ns. refl) log in
      record {
        in_order = record {
          places = subst (Counts base.place) (same-folded places (λ row ns. row.place ∷ ns) (log_row_of a) (log_row_of b) refl (λ row rows. refl) (λ row ns. refl) log) audited.in_order.places;
          numbered = λ session. subst (Counts _) (counted session) (audited.in_order.numbered session);
          closed = λ session mark at. audited.in_order.closed session mark at ∙ ap (λ ns. last_folded base session + length ns + 1) (counted session);
        };
        explained = subst (λ (T : Type 0). T) (ap (λ (F : State → Type 0). F base.state) (same-folded (λ rows state. Explained state rows) (λ row F state. (is_committed row.standing ≡ true → AreAnswers state row.reads) × F (after state row)) (log_row_of a) (log_row_of b) refl (λ row rows. refl)
            (λ row F i state. ((same-standing a b row.writes row.standing).0 i ≡ true → AreAnswers state row.reads) × F (same-after state row i)) log)) audited.explained;
        replayed =
            sym (ap (λ (F : State → State). F table) (same-folded (λ rows state. settled state rows) (λ row F state. F (apply state (rest row))) (log_row_of a) (log_row_of b) refl (λ row rows. refl) (λ row F i state. F (apply state ((same-standing a b row.writes row.standing).1 i))) log))
            ∙ audited.replayed
            ∙ ap (λ (F : State → State). F base.state) (same-folded (λ rows state. serial state rows) (λ row F state. F (after state row)) (log_row_of a) (log_row_of b) refl (λ row rows. refl) (λ row F i state. F (same-after state row i)) log);
      }

-- so what decides of a claim decides of it however that is seen
pub decides-asked : {Z O : Type 0} (opened : O → ℕ × Case) (base : Base) (marks : FinMap nat_cmp ℕ) (table : State) (log : List (code_row.LogRow Z O)) (test : Bool) → Decides test (Audited base marks table (rows.log_of log)) → Decides test (Audited base marks table (log_of opened log))
decides-asked opened base marks table log test d = (
  λ e. same-audited unasked opened base marks table log (d.0 e),
  λ audited. d.1 (same-audited opened unasked base marks table log audited),
)
