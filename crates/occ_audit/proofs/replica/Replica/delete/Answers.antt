use Rattle.std.proofs.Common.{◌≡◌, Some, None, refl, sym, ap, subst, ◌∙◌, IsSome}
use Rattle.occ_audit.proofs.Common.{option_copied_mut, key_of, object_of, state_of}
use Rattle.occ_audit.proofs.Lent.{table_at, rows-placed, written-put, get-in}
use Rattle.occ_audit.proofs.Overlaid.{put-nothing}
use Rattle.occ_audit.proofs.replica.Replica.delete.Goals as goal
use Rattle.occ_audit.proofs.replica.Replica.delete.Goals.{in-Some, in_default}

pub returns : goal.returns
returns g c =
    let object = c.args.object.now in
    let tables = c.self.inside.tables.entries in
    elim c.match-get_mut.branch [
      | in-Some w ↦
          let m = w.in-Some.rows.now in
          let n = w.delete.new.self in
          let at : table_at tables object.table ≡ Some m = sym c.get_mut.ensures.value ∙ ap option_copied_mut w.in-Some.is in
          ap (λ t. state_of t.tables.entries) w.self-inside-is
          ∙ written-put object.table (key_of object.key) None m n c.args.self.now _ (rows-placed tables _ object.table n c.args.self.now c.self.view_is ((c.get_mut.follows.holds n).3 (subst IsSome (sym at) refl)).0)
          (get-in tables object.table c.args.self.now (Some m) c.self.view_is at) w.delete.ensures
      | in_default w ↦
          let at : table_at tables object.table ≡ None = sym c.get_mut.ensures.value ∙ ap option_copied_mut w.in_default.is in
          ap (λ t. state_of t.tables.entries) w.self-inside-is
          ∙ ap (λ t. state_of t.entries) c.get_mut.follows.holds-at-none
          ∙ c.self.view_is
          ∙ put-nothing c.args.self.now (object_of object) (get-in tables object.table c.args.self.now None c.self.view_is at (key_of object.key))
    ]
