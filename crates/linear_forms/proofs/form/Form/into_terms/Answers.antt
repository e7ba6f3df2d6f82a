use Rattle.std.proofs.Common.{rules}
use Rattle.linear_forms.proofs.Terms.{terms_of-form_of}
use Rattle.linear_forms.proofs.form.Form.into_terms.Goals as goal

pub returns : goal.returns
returns c = rw (← c.self.view_is, terms_of-form_of c.self.inside.terms.items c.self.inside.constant) (search rules)
