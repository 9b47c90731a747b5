-- A core that was just opened.
use Rattle.std.proofs.Common.{◌≡◌, ℕ, zero, suc, ◌-◌, List, [], drop, length, None, Some, refl, sym, ap, subst, arith, slice_get}
use Rattle.std.specs.FinMap as finite
use Rattle.std.specs.FinSet as sets
use Rattle.std.specs.Ordering.{nat_cmp}
use Rattle.occ_types.specs.Schema.{Schema}
use Rattle.std.specs.FinMap.{FinMap}
use Rattle.std.proofs.Math.Seq.{drop-nil}
use Rattle.occ_model.specs.Log.{LogRow}
use Rattle.occ_model.specs.World.{ReadPhase, phase_cmp, empty_base, opened}
use Rattle.occ_book.specs.Base.{BaseContent}
use Rattle.occ_book.specs.Content.{Content}
use Rattle.occ_log.specs.Window.{Window}
use Rattle.occ_model.specs.Content.{IsLawful}
use Rattle.occ_model.proofs.InSchema.{opened_lawful}
use Rattle.occ_log.specs.SessionStates.{Slot, held_from, idle_slots}
use Rattle.occ_core.specs.CoreParts.{Parts, world_of, before_first, AreSound, SlotIsTrue}

none_held : (n count : ℕ) → held_from n (idle_slots count) ≡ sets.empty
none_held n zero = refl
none_held n (suc count) = none_held (suc n) count

pub idle_length : (count : ℕ) → length (idle_slots count) ≡ count
idle_length zero = refl
idle_length (suc count) = ap suc (idle_length count)

pub idle_at : (count place : ℕ) (slot : Slot) → slice_get (idle_slots count) place ≡ Some slot → slot ≡ record { last = 0; hold = None }
idle_at zero place slot at = cc
idle_at (suc count) zero slot at = cc
idle_at (suc count) (suc place) slot at = idle_at count place slot at

-- the parts of a core that was just opened
abbrev pub opened_parts : Schema → ℕ → ℕ → Parts
opened_parts schema sessions keep = record {
  settings = record { schema = schema; sessions = length (idle_slots sessions); keep = keep };
  base = empty_base;
  log = [];
  table = finite.empty;
  counter = 0;
  marks = finite.empty;
  phases = finite.empty;
  slots = idle_slots sessions;
  window = [];
}

pub opened_world : (schema : Schema) (sessions keep : ℕ) → world_of (opened_parts schema sessions keep) ≡ opened (record { schema = schema; sessions = sessions; keep = keep })
opened_world schema sessions keep =
    (λ i. record (world_of (opened_parts schema sessions keep)) { settings = record { schema = schema; sessions = idle_length sessions i; keep = keep }; held = none_held 1 sessions i })

pub opened_sound : (schema : Schema) (sessions keep : ℕ) → AreSound (opened_parts schema sessions keep)
opened_sound schema sessions keep = record {
  law = subst IsLawful (sym (opened_world schema sessions keep)) (opened_lawful (record { schema = schema; sessions = sessions; keep = keep }));
  each_session = refl;
  slots_true = λ place slot at. let idle = idle_at sessions place slot at in
      subst (SlotIsTrue (opened_parts schema sessions keep) place) (sym idle) (record {
        last_is = sym (ap (λ o. Rattle.std.specs.Prelude.unwrap_or o 0) (finite.get-empty _ (suc place)));
        last_fits = omega arith;
        row_is = λ hold (e : None ≡ Some hold). cc e;
      });
  window_size = omega arith;
  window_is = λ start above test. ap (Rattle.std.specs.List.list_any test) (drop-nil (start - before_first (opened_parts schema sessions keep)));
  log_room = omega arith;
  place_room = omega arith;
  base_begins = λ _. refl;
  counter_room = omega arith;
}

-- the fields of a core that was just opened are these parts
pub opened_is : (schema : Schema) (sessions keep : ℕ) (tables : Content) (count : ℕ) → tables ≡ record { tables = count; state = finite.empty } → (slots : List Slot) → slots ≡ idle_slots sessions
    → (window : Window) → window ≡ record { keep = keep; sets = [] } → (log : List LogRow) → log ≡ [] → (phases : FinMap phase_cmp ReadPhase) → phases ≡ finite.empty → (marks : FinMap nat_cmp ℕ) → marks ≡ finite.empty
    → (base : BaseContent) → base ≡ record { tables = count; sessions = sessions; base = empty_base }
    → ◌≡◌ {A = Parts} (record { settings = record { schema = schema; sessions = length slots; keep = window.keep }; base = base.base; log = log; table = tables.state; counter = 0; marks = marks; phases = phases; slots = slots; window = window.sets }) (opened_parts schema sessions keep)
opened_is schema sessions keep tables count t slots s window w log l phases p marks m base b =
    λ i. record { settings = record { schema = schema; sessions = length (s i); keep = (w i).keep }; base = (b i).base; log = l i; table = (t i).state; counter = 0; marks = m i; phases = p i; slots = s i; window = (w i).sets }
