use Rattle.cnf_polarity.proofs.CnfMade.{cnf-symbols, cnf-names, cnf-parts, cnf-some, cnf-made, cnf-clauses}
use Rattle.cnf_polarity.proofs.CnfValues.{cnf-sound, cnf-complete}
use Rattle.cnf_polarity.proofs.laws.cnf_makes_groups.Goals as goal

pub returns-clause-groups : goal.returns-clause-groups
returns-clause-groups c t s able =
    let new = c.constants_are_new.ensures in
    record {
      symbols = cnf-symbols new t s;
      names = cnf-names new t s;
      parts = cnf-parts new t s able.sorted able.sort;
      some = cnf-some t s;
      made = cnf-made new t s able.sorted able.sort;
      sound = cnf-sound new t s able;
      complete = cnf-complete new t s able;
    }

pub returns-clause-clauses : goal.returns-clause-clauses
returns-clause-clauses c = cnf-clauses c.constants_are_new.ensures
