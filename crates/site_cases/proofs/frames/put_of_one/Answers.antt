use Rattle.site_cases.proofs.frames.put_of_one.Goals as goal

pub encode-requires-clause-fits : goal.encode-requires-clause-fits
encode-requires-clause-fits c = c.fits1.ensures.0 c.if-fits1.true
