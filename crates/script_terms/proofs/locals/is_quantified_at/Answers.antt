use Rattle.std.proofs.Common.{sym, ◌∙◌, reverse}
use Rattle.script_terms.proofs.Linking.{quantified-in, absent}
use Rattle.script_terms.proofs.locals.is_quantified_at.Goals as goal

pub returns-in-Some : goal.returns-in-Some
returns-in-Some c n links e = sym (quantified-in c.args.bindings.now n c.in-Some.place _ links (sym e ∙ c.in-Some.is))

pub returns-in-None : goal.returns-in-None
returns-in-None c n links e = sym (absent (reverse c.args.bindings.now) n (sym e ∙ c.in-None.is)).1
