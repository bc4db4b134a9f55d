use Rattle.site_cases.proofs.marks.gets.Goals as goal

pub returns-then-well_formed : goal.returns-then-well_formed
returns-then-well_formed c = c.take.ensures.fit c.requires
