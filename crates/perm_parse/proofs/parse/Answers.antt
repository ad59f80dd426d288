use Rattle.perm_parse.proofs.OneAnswer.{gives-program, only-program, gives-refusal, only-refusal}
use Rattle.perm_parse.proofs.parse.Goals as goal

pub returns-clause-program : goal.returns-clause-program
returns-clause-program c = gives-program c.args.text.now c.args.tokens.now c.read.result c.read.ensures

pub returns-clause-only_program : goal.returns-clause-only_program
returns-clause-only_program c = only-program c.args.text.now c.args.tokens.now c.read.result c.read.ensures

pub returns-clause-refused : goal.returns-clause-refused
returns-clause-refused c = gives-refusal c.args.text.now c.args.tokens.now c.read.result c.read.ensures

pub returns-clause-only_refusal : goal.returns-clause-only_refusal
returns-clause-only_refusal c = only-refusal c.args.text.now c.args.tokens.now c.read.result c.read.ensures
