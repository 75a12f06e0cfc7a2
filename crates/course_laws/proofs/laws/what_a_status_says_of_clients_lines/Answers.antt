use Rattle.course_laws.proofs.Judging.{judged_by}
use Rattle.course_laws.proofs.laws.what_a_status_says_of_clients_lines.Goals as goal

pub returns : goal.returns
returns g c = judged_by _
