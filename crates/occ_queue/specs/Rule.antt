-- The rule of a lane: what was pushed is what was taken, followed by what is held (our own choice).
use Rattle.std.specs.Prelude.{◌≡◌, ℕ, Bool, true, false, List, ◌++◌, if◌then◌else◌}
use mathlib.Core.List.{IsPrefix}
use mathlib.Core.Option.{some}
use lib.ListN.{get_elem?}
use Rattle.crossbeam_queue.specs.Passes.{Pass, view}
use Rattle.occ_queue.specs.declared.items.Item.{Item}
use Rattle.occ_queue.specs.declared.rules.Knowledge.{Knowledge}
use Rattle.occ_queue.specs.Items.{items_of}
use Rattle.occ_queue.specs.Lanes.{Known, InTurn, longer}

module _ {Z : Type 0} where
  abbrev pub knowledge : Bool → Bool → ℕ → List (Item Z) → List (Item Z) → Knowledge Z
  knowledge sends takes before pushed taken = record { sends = sends; takes = takes; before = before; pushed = pushed; taken = taken }

  -- a pass that has heard what another knows: of its own end it knows all
  abbrev pub hearing : Knowledge Z → Knowledge Z → Knowledge Z
  hearing knows told = knowledge knows.sends knows.takes knows.before
      (if knows.sends then knows.pushed else longer knows.pushed told.pushed)
      (if knows.takes then knows.taken else longer knows.taken told.taken)

  -- what a clause sees of a pass
  abbrev pub known_by : Pass (Item Z) (Knowledge Z) → Known
  known_by pass = record { lane = pass.table_id; before = (view pass).before; pushed = items_of (view pass).pushed; taken = items_of (view pass).taken }

  -- the pass of the sender, and that of the receiver
  abbrev pub IsSending : Pass (Item Z) (Knowledge Z) → Type 0
  IsSending pass = ((view pass).sends ≡ true) × ((view pass).takes ≡ false)

  abbrev pub IsTaking : Pass (Item Z) (Knowledge Z) → Type 0
  IsTaking pass = ((view pass).sends ≡ false) × ((view pass).takes ≡ true)

  -- A pass knows beginnings; there is one that sends and knows all that was pushed, and one that takes and knows all that was taken. Both know the number that the lane begins behind.
  pub record Fits (sender receiver before : ℕ) (pushed taken : List (Item Z)) (port : ℕ) (knows : Knowledge Z) : Type 0 where
    pub begins : IsPrefix knows.pushed pushed
    pub began : IsPrefix knows.taken taken
    pub sends : knows.sends ≡ true → (port ≡ sender) × (knows.pushed ≡ pushed) × (knows.before ≡ before)
    pub takes : knows.takes ≡ true → (port ≡ receiver) × (knows.taken ≡ taken) × (knows.before ≡ before)

  pub record Kept (items : List (Item Z)) (views : List (Knowledge Z)) : Type 0 where
    pub sender : ℕ
    pub receiver : ℕ
    pub before : ℕ
    pub pushed : List (Item Z)
    pub taken : List (Item Z)
    pub whole : pushed ≡ taken ++ items
    pub in_turn : InTurn before (items_of pushed)
    pub fits : (port : ℕ) (knows : Knowledge Z) → get_elem? views port ≡ some knows → Fits sender receiver before pushed taken port knows
