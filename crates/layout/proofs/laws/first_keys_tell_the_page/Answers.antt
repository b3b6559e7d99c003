-- Entries ascend across the pages: see Search.
use Rattle.layout.proofs.Search.{search_by_first_keys}
use Rattle.layout.proofs.laws.first_keys_tell_the_page.Goals as goal

pub returns : goal.returns
returns c = search_by_first_keys
