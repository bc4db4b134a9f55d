use Rattle.script_text.proofs.report.explained.+hex_parts.Given as goal

abbrev pub decreases-hex_parts : goal.decreases-hex_parts
decreases-hex_parts l = l.count
