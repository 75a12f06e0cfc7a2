use Rattle.course_laws.proofs.Finding.{found_by}
use Rattle.course_laws.proofs.laws.the_status_that_was_found_is_the_only_one.Goals as goal

pub returns : goal.returns
returns g c = found_by _
