use Rattle.std.proofs.Common.{◌≡◌, ◌+◌, ◌≤◌, [], ◌∷◌, append_assoc, append-nil, length, sym, ap, subst, ◌∙◌, arith, rules, map-id}
use Rattle.std.proofs.lemmas.List.{length_push}
use Rattle.std.proofs.lemmas.Iterator.Consumers.{YieldsList-end, YieldsList-turn}
use Rattle.std.proofs.lemmas.Iterator.Adapters.{YieldsList-from_vec}
use Rattle.std.specs.BTreeMap.{btree_map_len}
use Rattle.std.specs.Ordering.{on}
use Rattle.occ_types.specs.declared.keys.Key as code_key
use Rattle.occ_types.specs.Row.{Row}
use Rattle.occ_types.specs.Key.{key_cmp}
use Rattle.occ_types.specs.PlainData.{key_of}
use Rattle.occ_sets.specs.Merging.{merged}
use Rattle.occ_sets.proofs.prepared.merge.Goals as goal

-- the next row goes behind those that are laid
pub loop-key-preserved : goal.loop-key-preserved
loop-key-preserved g c =
    let kept = c.loop-key.invariant in
    let next : code_key.Key g.row.A.Denot × Row = (c.in-Some.key, c.in-Some.row) in (
      λ rest e. c.lay_row.ensures.rows (merged (on key_of key_cmp) rest) ∙ kept.0 (next ∷ rest) (e ∙ append_assoc c.loop-key.yielded (next ∷ []) rest),
      omega (arith, c.lay_row.ensures.len, kept.1, length_push c.loop-key.yielded next),
      subst (λ n. length c.args.rows.items + btree_map_len c.args.own ≤ n) (sym c.lay_row.ensures.capacity) kept.2,
    )

-- a row that is taken was left, so there is room for it
pub lay_row-requires : goal.lay_row-requires
lay_row-requires g c =
    let turn = YieldsList-turn (YieldsList-from_vec {s = c.into_iter-key-iterator.result} c.args.rows.items (search rules) (search rules))
    c.loop-key.yielded c.loop-key.key-iterator c.loop-key.yielded_by c.next.result c.next.new.self (c.in-Some.key, c.in-Some.row) c.in-Some.is c.next.ensures.steps in
    record { room = omega (arith, turn.0, c.loop-key.invariant.1, c.loop-key.invariant.2) }

pub lay_rest-requires : goal.lay_rest-requires
lay_rest-requires g c =
    let end = YieldsList-end (YieldsList-from_vec {s = c.into_iter-key-iterator.result} c.args.rows.items (search rules) (search rules))
    c.loop-key.yielded c.loop-key.key-iterator c.loop-key.yielded_by c.next.result c.next.new.self c.in-None.is c.next.ensures.steps in
    let as_many : length c.loop-key.yielded ≡ length c.args.rows.items = ap length (sym (map-id c.loop-key.yielded) ∙ end.0) in
    record { room = omega (arith, as_many, c.loop-key.invariant.1, c.loop-key.invariant.2) }

-- all rows and writes are laid
pub returns-clause-rows : goal.returns-clause-rows
returns-clause-rows g c =
    let end = YieldsList-end (YieldsList-from_vec {s = c.into_iter-key-iterator.result} c.args.rows.items (search rules) (search rules))
    c.loop-key.yielded c.loop-key.key-iterator c.loop-key.yielded_by c.next.result c.next.new.self c.in-None.is c.next.ensures.steps in
    let all : c.args.rows.items ≡ c.loop-key.yielded = sym (sym (map-id c.loop-key.yielded) ∙ end.0) in
    c.lay_rest.ensures ∙ c.loop-key.invariant.0 [] (all ∙ sym (append-nil c.loop-key.yielded))
