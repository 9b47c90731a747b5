use Rattle.std.proofs.Common.{append_assoc, ◌≡◌, List, ℕ, ◌∷◌, ◌++◌, ◌∙◌}
use Rattle.std.specs.Prelude.{string_bytes}
use Rattle.std.specs.Fmt.{decimal}
use Rattle.std.proofs.lemmas.Result.{on_ok_weaker}
use Rattle.occ_sets.specs.LogRows.{standing_of}
use Rattle.occ_print.specs.Books.{standing_text}
use Rattle.occ_run.proofs.session_lines.standing_line.Goals as goal

-- the words of the standing stand behind the number
pub returns : goal.returns
returns g c = λ opened.
    let row = c.args.row.now in
    let behind : (words : List ℕ) → string_bytes c.write.new.self ++ words ≡ decimal row.number ++ 32 ∷ words = λ words. simp (c.in_ok-write.ensures.bytes, c.clear.ensures.bytes, append_assoc) in
    on_ok_weaker c.write_standing.result (λ is. is ∙ behind (standing_text (standing_of opened row.standing))) (c.write_standing.ensures opened)
