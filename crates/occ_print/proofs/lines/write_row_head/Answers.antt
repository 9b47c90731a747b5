use Rattle.std.proofs.Common.{append_assoc, ◌≡◌, ◌∷◌, [], ◌++◌, ◌∙◌, length, codes, decimal}
use Rattle.std.specs.Prelude.{string_bytes}
use Rattle.std.proofs.lemmas.Result.{on_ok_weaker}
use Rattle.occ_text.specs.Spelling.{line_text}
use Rattle.occ_print.proofs.lines.write_row_head.Goals as goal

-- the last number stands behind the others
pub returns : goal.returns
returns g c =
    let row = c.args.row.now in
    let behind : string_bytes c.write_next_number-6.new.line ++ (32 ∷ decimal c.len-2.result) ≡ line_text (
    codes "row"
    ∷ decimal row.place
    ∷ decimal row.session
    ∷ decimal row.number
    ∷ decimal row.start
    ∷ decimal row.finish
    ∷ decimal (length row.reads)
    ∷ decimal (length row.writes)
    ∷ []) = simp (
      c.in_ok-write_next_number-6.ensures,
      c.in_ok-write_next_number-5.ensures,
      c.in_ok-write_next_number-4.ensures,
      c.in_ok-write_next_number-3.ensures,
      c.in_ok-write_next_number-2.ensures,
      c.in_ok-write_next_number.ensures,
      c.in_ok-push_str.ensures.bytes,
      c.clear.ensures.bytes,
      c.len.ensures.value,
      c.len-2.ensures.value,
      append_assoc,
    ) in
    on_ok_weaker c.write_next_number-7.result (λ is. is ∙ behind) c.write_next_number-7.ensures
