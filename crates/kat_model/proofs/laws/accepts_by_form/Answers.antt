use Rattle.std.proofs.Common.{refl}
use Rattle.kat_model.proofs.Acceptance.{accepts-zero, accepts_one, accepts_test, accepts_act, act_accepts, accepts-sum}
use Rattle.kat_model.proofs.Cuts.{product_accepts, accepts_product, star_accepts, accepts_star}
use Rattle.kat_model.proofs.laws.accepts_by_form.Goals as goal

pub returns : goal.returns
returns c atom ms = record {
  of_zero = accepts-zero atom ms;
  of_one = (accepts_one atom ms, λ e. rw e refl);
  of_test = λ b. (accepts_test b atom ms, λ h. rw h.0 h.1);
  of_act = λ a. (accepts_act a atom ms, λ h. rw h.1 (act_accepts a atom h.0));
  of_sum = λ e f. accepts-sum e f atom ms;
  of_product = λ e f. (accepts_product e f atom ms, λ h. rw h.whole (product_accepts e f atom h.before h.after h.first h.second));
  of_star = λ e. (accepts_star e atom ms, λ h. rw h.1 (star_accepts e atom h.0 h.2));
}
