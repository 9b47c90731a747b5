use Rattle.occ_reading.proofs.BookLeads.{book_leads, ending_leads}
use Rattle.occ_reading.proofs.laws.the_lines_of_a_book_lead_to_its_end.Goals as goal

pub returns-clause-whole : goal.returns-clause-whole
returns-clause-whole c = book_leads

pub returns-clause-ending : goal.returns-clause-ending
returns-clause-ending c = ending_leads
