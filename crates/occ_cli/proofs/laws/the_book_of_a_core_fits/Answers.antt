use Rattle.occ_reading.proofs.CoreBooks.{core_book_fits}
use Rattle.occ_cli.proofs.laws.the_book_of_a_core_fits.Goals as goal

pub returns : goal.returns
returns g c = λ header own words.
    core_book_fits header c.args.core.now.world c.law.ensures.invariant (record { places = c.law.ensures.places; numbers = c.law.ensures.folded; nothing = c.law.ensures.begins }) c.law.ensures.counter c.law.ensures.rows c.law.ensures.content own words
