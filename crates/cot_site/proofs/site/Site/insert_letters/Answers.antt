use Rattle.cot_site.proofs.site.Site.insert_letters.Goals as goal

pub returns-in-Err-clause-answer : goal.returns-in-Err-clause-answer
returns-in-Err-clause-answer c = c.in-Err.ensures.refused c.args.text
