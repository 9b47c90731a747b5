-- A single write is of the object that was known beforehand.
use Rattle.std.proofs.Common.{◌≡◌, ℕ, Option, None, Some, Result, Ok, Err, refl, sym, ap, subst, ◌∙◌, MatchOption, slice_get, option_map}
use Rattle.occ_types.specs.declared.fault.Fault.{Fault}
use Rattle.occ_types.specs.Object.{Object}
use Rattle.occ_model.specs.State.{Write}
use Rattle.occ_model.specs.Log.{remaining, rest}
use Rattle.occ_model.specs.World.{World}
use Rattle.occ_model.specs.Event.{Reply, WriteOne, Refused, Wrote, NoMore}
use Rattle.occ_model.specs.Step.{Step, refused, starved, taken}
use Rattle.occ_model.specs.Replies.{replied}
use Rattle.occ_core.specs.Replies.{wrote, written_in, first_object, next_object}
use Rattle.occ_core.specs.declared.writing.SingleWrite.{SingleWrite}
use Rattle.occ_core.specs.declared.writing.SingleWrite.TheVariants as writes
use Rattle.occ_core.proofs.Nexts.{first_dropped}

-- what is said of a write that may be there
abbrev pub of_object : Option Object → Reply
of_object None = NoMore
of_object (Some object) = Wrote object

unrefused : (o : Option Object) (fault : Fault) → of_object o ≡ Refused fault → ⊥
unrefused None fault e = cc
unrefused (Some object) fault e = cc

said : (reply : Reply) (Q : Type 0) (P : Write → Type 0) (o : Option Write) → MatchOption o ((reply ≡ NoMore) × Q) (λ write. (reply ≡ Wrote write.0) × P write) → reply ≡ of_object (option_map (λ w. w.0) o)
said reply Q P None h = h.0
said reply Q P (Some write) h = h.0

-- a single write that isn't refused is of the next object
taken_is : (old : World) (session : ℕ) (o : Option Object) (new : World) → Step old (WriteOne session) (of_object o) new → of_object o ≡ of_object (next_object old session)
taken_is old session o new (refused fault why is kept) = absurd (unrefused o fault is)
taken_is old session o new (starved free wants is kept) = absurd (unrefused o _ is)
taken_is old session o new (taken free t) =
    said (of_object o) _ _ (slice_get t.0.writes t.1) t.4
    ∙ ap of_object (sym (ap (λ l. elim l as (λ _. Option Object) [ None ↦ None | Some row ↦ first_object (rest row) ]) t.2
    ∙ ap (λ s. first_object (remaining t.0.writes s)) t.3 ∙ first_dropped t.1 t.0.writes))

single_is : (old : World) (session : ℕ) (called : Result SingleWrite Fault) (new : World) → Step old (WriteOne session) (replied (wrote new) called) new → replied (wrote new) called ≡ replied (λ _. of_object (next_object old session)) called
single_is old session (Err fault) new stepped = refl
single_is old session (Ok writes.NoMore) new stepped = taken_is old session None new stepped
single_is old session (Ok (writes.Wrote row write)) new stepped =
    go (written_in new row write) stepped
  where
    go : (o : Option Object) → Step old (WriteOne session) (elim o as (λ _. Reply) [ None ↦ NoMore | Some object ↦ Wrote object ]) new
        → (elim o as (λ _. Reply) [ None ↦ NoMore | Some object ↦ Wrote object ]) ≡ of_object (next_object old session)
    go None stepped = taken_is old session None new stepped
    go (Some object) stepped = taken_is old session (Some object) new stepped

-- so a single write is known by the object that was shown beforehand
pub write_said : (old : World) (session : ℕ) (next : Option Object) (called : Result SingleWrite Fault) (new : World) → next ≡ next_object old session → Step old (WriteOne session) (replied (wrote new) called) new
    → Step old (WriteOne session) (replied (λ _. of_object next) called) new
write_said old session next called new is stepped =
    subst (λ r. Step old (WriteOne session) r new) (single_is old session called new stepped ∙ ap (λ n. replied (λ _. of_object n) called) (sym is)) stepped
