-- Whether one write is that of an object.
use Rattle.std.specs.Prelude.{Option, None, Some, cond}
use Rattle.std.specs.Ordering.{eq_by_cmp}
use Rattle.occ_types.specs.Object.{Object, object_cmp}
use Rattle.occ_types.specs.Row.{Row}
use Rattle.occ_model.specs.State.{Write}

-- what `own` is of one write, if there is one
abbrev pub own_one : Option Write → Object → Option (Option Row)
own_one None object = None
own_one (Some write) object = cond (eq_by_cmp object_cmp object write.0) (Some write.1) None
