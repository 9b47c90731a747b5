-- The book of a core fits its header.
use Rattle.std.proofs.Common.{◌≡◌, ℕ, suc, ◌+◌, ◌-◌, ◌^◌, ◌≤◌, Bool, true, false, cond, List, ◌∷◌, map, length, Option, Some, None, refl, sym, subst, arith, []}
use Rattle.occ_reading.proofs.Common.{AllByRecursion, AtFits, Back, Base, BaseFits, BookFits, Counts, Done, EntryFits, HasWords, Header, IsHeaderOf, IsInSchema, IsToldBase, LogRow, LogRowFits, Open, QuestionFits, ReadFits, ReadHasWords, ReadIs, RowHasWords, RowIs, Schema, Standing, StandingFits, Version, World, WriteFits, WriteHasWords, WriteIs, Writing, active_count, book_in, entries, filter, get, last_folded, nat_cmp, nat_cmp-IsAntisymmetric, nat_cmp_total, nat_tests, numbers, unwrap_or, ◌==◌}
use Rattle.occ_types.specs.declared.limits.TheConstants.{MAX_COUNTER, MAX_LOG_ROWS, MAX_NUMBER}
use Rattle.occ_model.specs.Invariant.{Invariant, NumberIsBelow, NumbersAreBelow}
use Rattle.occ_model.specs.Content as content
use Rattle.occ_reading.proofs.CoreContent.{all_entries, all_both, write_fits, read_fits, table_fits}

-- the places of a log in order lie below the next one
places_below : (n bound : ℕ) (log : List LogRow) → Counts n (map (λ row. row.place) log) → n + length log ≤ bound → AllByRecursion (λ row. row.place ≤ bound) log
places_below n bound [] counts up = tt
places_below n bound (row ∷ rows) counts up =
    let is = counts.0 in
    (omega arith, places_below (suc n) bound rows counts.1 (omega arith))

-- the numbers of a session's rows are at most as many as there are rows
session_below : (session n bound : ℕ) (log : List LogRow) → Counts (suc n) (numbers session log) → n + length log ≤ bound → AllByRecursion (λ row. row.session ≡ session → row.number ≤ bound) log
session_below session n bound [] counts up = tt
session_below session n bound (row ∷ rows) counts up = go (row.session == session) refl (λ c. session_below session (suc n) bound rows c (omega arith)) (λ c. session_below session n bound rows c (omega arith)) counts
  where
    Below : Type 0
    Below = AllByRecursion (λ r. r.session ≡ session → r.number ≤ bound) rows

    go : (b : Bool) → (row.session == session) ≡ b → (Counts (suc (suc n)) (numbers session rows) → Below) → (Counts (suc n) (numbers session rows) → Below) → Counts (suc n) (map (λ r. r.number) (cond b (row ∷ filter (λ r. r.session == session) rows) (filter (λ r. r.session == session) rows)))
        → AllByRecursion (λ r. r.session ≡ session → r.number ≤ bound) (row ∷ rows)
    go true e own other c = let is = c.0 in ((λ same. omega arith), own c.1)
    go false e own other c = ((λ same. absurd (grind (arith, nat_tests))), other c)

own_below : (bound : ℕ) (log : List LogRow) → ((session : ℕ) → AllByRecursion (λ row. row.session ≡ session → row.number ≤ bound) log) → AllByRecursion (λ row. row.number ≤ bound) log
own_below bound [] h = tt
own_below bound (row ∷ rows) h = (let own = h row.session in own.0 refl, own_below bound rows (λ session. let own = h session in own.1))

standing_fits : (counter writes : ℕ) (standing : Standing) → counter ≤ 2 ^ 64 - 1 → NumberIsBelow counter standing → ((done : ℕ) → standing ≡ Writing done → done ≤ writes) → StandingFits writes standing
standing_fits counter writes (Open index case) up below done = tt
standing_fits counter writes (Writing n) up below done = done n refl
standing_fits counter writes (Done n) up below done = omega arith
standing_fits counter writes (Back cause) up below done = tt

-- the rows of a log
rows_fit : (version : Version) (schema : Schema) (sessions counter bound most : ℕ) (log : List LogRow) → counter ≤ 2 ^ 64 - 1 → bound ≤ 2 ^ 64 - 1 → most ≤ 2 ^ 64 - 1 → AllByRecursion (λ row. row.place ≤ bound) log → AllByRecursion (λ row. row.number ≤ most) log → NumbersAreBelow counter log
    → AllByRecursion (RowIs (QuestionFits schema) (content.RowFits schema) sessions counter) log → AllByRecursion (RowHasWords version) log → AllByRecursion (LogRowFits version schema sessions) log
rows_fit version schema sessions counter bound most [] few up high places numbered below fit words = tt
rows_fit version schema sessions counter bound most (row ∷ rows) few up high places numbered below fit words =
    let place = places.0 in
    let number = numbered.0 in
    let fits = fit.0 in
    let has = words.0 in
    let start = fits.start in
    let finish = fits.finish in
    let session = fits.session in
    let reads = fits.few in (
      record {
        place = omega arith;
        session = record { first = session.first; last = session.last };
        number = omega arith;
        start = omega arith;
        finish = omega arith;
        count_reads = omega (arith, reads);
        count_writes = has.count_writes;
        done = standing_fits counter (length row.writes) row.standing few below.0 fits.done;
        reads = all_both (ReadIs (QuestionFits schema) (content.RowFits schema)) (ReadHasWords version) (ReadFits version schema) (read_fits version schema) row.reads fits.reads has.reads;
        writes = all_both (WriteIs (QuestionFits schema) (content.RowFits schema)) (WriteHasWords version) (WriteFits version schema) (write_fits version schema) row.writes fits.writes has.writes;
        distinct = has.distinct;
      },
      rows_fit version schema sessions counter bound most rows few up high places.1 numbered.1 below.1 fit.1 words.1,
    )

one_more : (a b : ℕ) → a ≤ b → suc a ≤ suc b
one_more a b h = omega arith

no_more : (a b : ℕ) → a ≤ b → a ≤ suc b
no_more a b h = omega arith

-- a session has no more numbers than the log has rows
numbers_within : (session : ℕ) (log : List LogRow) → length (numbers session log) ≤ length log
numbers_within session [] = omega arith
numbers_within session (row ∷ rows) = go (row.session == session) (numbers_within session rows)
  where
    go : (b : Bool) → length (numbers session rows) ≤ length rows
        → length (map (λ (r : LogRow). r.number) (cond b (row ∷ filter (λ r. r.session == session) rows) (filter (λ r. r.session == session) rows))) ≤ suc (length rows)
    go true h = one_more _ _ h
    go false h = no_more _ _ h

few_marks : (mark folded count rows : ℕ) → mark ≡ folded + count + 1 → folded ≤ MAX_NUMBER → count ≤ rows → rows ≤ MAX_LOG_ROWS → mark ≤ 2 ^ 64 - 1
few_marks mark folded count rows is low within few = omega arith

few_numbers : (folded rows : ℕ) → folded ≤ MAX_NUMBER → rows ≤ MAX_LOG_ROWS → folded + rows ≤ MAX_NUMBER + MAX_LOG_ROWS
few_numbers folded rows low few = omega arith

-- the last folded number of a session is small, where it has one
folded_small : (base : Base) (session : ℕ) → ((number : ℕ) → get base.last session ≡ Some number → number ≤ MAX_NUMBER) → last_folded base session ≤ MAX_NUMBER
folded_small base session each = by (get base.last session) refl
  where
    by : (o : Option ℕ) → get base.last session ≡ o → last_folded base session ≤ MAX_NUMBER
    by None e = subst (λ (o : Option ℕ). unwrap_or o 0 ≤ MAX_NUMBER) (sym e) (omega arith)
    by (Some number) e = subst (λ (o : Option ℕ). unwrap_or o 0 ≤ MAX_NUMBER) (sym e) (each number e)

pub core_book_fits : (header : Header) (world : World) → Invariant world → IsToldBase world → world.counter + active_count world ≤ MAX_COUNTER → length world.log ≤ MAX_LOG_ROWS → IsInSchema world → IsHeaderOf header world → HasWords header.version world → BookFits (book_in header world)
core_book_fits header world law told counter rows within own words =
    let few : world.counter ≤ 2 ^ 64 - 1 = omega (arith, counter) in
    let up = told.places in
    let order = law.in_order in
    let folded : (session : ℕ) → last_folded world.base session ≤ MAX_NUMBER = λ session. folded_small world.base session (told.numbers session) in
    let numbers_fit : AllByRecursion (λ row. row.number ≤ MAX_NUMBER + MAX_LOG_ROWS) world.log =
    own_below (MAX_NUMBER + MAX_LOG_ROWS) world.log (λ session.
    session_below session (last_folded world.base session) (MAX_NUMBER + MAX_LOG_ROWS) world.log (order.numbered session) (few_numbers (last_folded world.base session) (length world.log) (folded session) rows)) in
    let log_fits : AllByRecursion (LogRowFits header.version world.settings.schema world.settings.sessions) world.log =
    rows_fit header.version world.settings.schema world.settings.sessions world.counter (world.base.place + length world.log) (MAX_NUMBER + MAX_LOG_ROWS) world.log few (omega (arith, up)) (omega arith) (places_below world.base.place (world.base.place + length world.log) world.log order.places (omega arith))
    numbers_fit law.below within.log words.log in
    let base_fits : BaseFits header.version world.settings.schema world.settings.sessions world.base = record {
      place = omega (arith, up);
      last = all_entries nat_cmp nat_cmp_total nat_cmp-IsAntisymmetric (EntryFits world.settings.sessions) world.base.last (λ session number is.
          let there = within.folded session number is in
          let most = told.numbers session number is in
          (record { first = there.first; last = there.last }, omega (arith, most)));
      objects = words.folded;
      state = table_fits header.version world.settings.schema world.base.state within.base words.base;
      nothing = told.nothing;
    } in
    record {
      header = own.fits;
      base = subst (λ sessions. BaseFits header.version header.tables sessions world.base) (sym own.sessions) (subst (λ schema. BaseFits header.version schema world.settings.sessions world.base) (sym own.tables) base_fits);
      rows = omega (arith, rows);
      log = subst (λ sessions. AllByRecursion (LogRowFits header.version header.tables sessions) world.log) (sym own.sessions)
          (subst (λ schema. AllByRecursion (LogRowFits header.version schema world.settings.sessions) world.log) (sym own.tables) log_fits);
      marks = subst (λ sessions. AllByRecursion (EntryFits sessions) (entries world.marks)) (sym own.sessions)
          (all_entries nat_cmp nat_cmp_total nat_cmp-IsAntisymmetric (EntryFits world.settings.sessions) world.marks (λ session mark is.
          let there = within.marks session mark is in (
            record { first = there.first; last = there.last },
            few_marks mark (last_folded world.base session) (length (numbers session world.log)) (length world.log) (order.closed session mark is) (folded session) (numbers_within session world.log) rows,
          )));
      objects = words.objects;
      state = subst (λ schema. AllByRecursion (AtFits header.version schema) (entries world.table)) (sym own.tables) (table_fits header.version world.settings.schema world.table within.table words.state);
      counts = record { counter = few; low = omega (arith, few) };
    }
