use Rattle.course_laws.proofs.Courses.{going_first, bring_back, course_goes_on, plays_once}
use Rattle.course_laws.proofs.laws.there_is_one_course.Goals as goal

pub returns-clause-front : goal.returns-clause-front
returns-clause-front g c = λ chunks p q q' start start' items items' text text' behind behind'
    empty same none h restored well h' well' few. course_goes_on _ chunks p q q' start start'
    items items' text text' behind behind' (going_first p start empty none) same h
    (bring_back _ chunks p start items text q behind h restored) well h' well' few

pub returns-clause-whole : goal.returns-clause-whole
returns-clause-whole g c = λ chunks p start start' last last' s s' items items' text text' behind
    behind' empty same none h restored well ends h' well' ends'.
    let one = plays_once _ chunks p start start' last last' s s' items items' text text' behind
    behind' (going_first p start empty none) same h restored well ends h' well' ends' in
    (one.are, one.written, one.nodes, one.same)
