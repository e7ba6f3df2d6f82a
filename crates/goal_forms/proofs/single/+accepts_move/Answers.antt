use Rattle.std.proofs.Common.{◌≡◌, ◌∷◌, [], ◌&&◌, ◌||◌, refl, sym, ap, ◌∙◌}
use Rattle.kat_model.specs.declared.tree.Kat.{Kat}
use Rattle.kat_model.specs.Trees.{kat_tree, product, star}
use Rattle.kat_model.specs.Steps.{out}
use Rattle.kat_model.specs.Strings.{Move, accepts}
use Rattle.goal_forms.proofs.OneMove.{accepts_move-product, accepts_move-star}
use Rattle.goal_forms.proofs.single.+accepts_move.Goals as goal

pub returns-in-Seq : goal.returns-in-Seq
returns-in-Seq t c =
    let from = c.args.from.now in
    let m : Move = record { act = c.args.act; atom = c.args.to.now } in
    let e : Kat = c.in-Seq.e.value in
    let f : Kat = c.in-Seq.f.value in
    let tree : kat_tree c.args.term.now ≡ product (kat_tree e) (kat_tree f) = rw c.in-Seq.is refl in
    let first : c.accepts_move-first.result ≡ accepts (kat_tree e) from (m ∷ []) = cc in
    let ends : c.accepts_atom-ends.result ≡ out (kat_tree f) m.atom = cc in
    let starts : c.accepts_atom-starts.result ≡ out (kat_tree e) from = cc in
    let second : c.accepts_move-second.result ≡ accepts (kat_tree f) from (m ∷ []) = cc in
    let both : c.is_product.result ≡ ((accepts (kat_tree e) from (m ∷ []) && out (kat_tree f) m.atom) || (out (kat_tree e) from && accepts (kat_tree f) from (m ∷ []))) = rw (sym first, sym ends, sym starts, sym second) c.is_product.ensures in
    both ∙ sym (accepts_move-product (kat_tree e) (kat_tree f) from m) ∙ ap (λ x. accepts x from (m ∷ [])) (sym tree)

pub returns-in-Star : goal.returns-in-Star
returns-in-Star t c =
    let from = c.args.from.now in
    let m : Move = record { act = c.args.act; atom = c.args.to.now } in
    let e : Kat = c.in-Star.e.value in
    let tree : kat_tree c.args.term.now ≡ star (kat_tree e) = rw c.in-Star.is refl in
    let own : c.accepts_move-in-Star.result ≡ accepts (kat_tree e) from (m ∷ []) = c.accepts_move-in-Star.ensures ∙ ap (λ (x : Kat). accepts (kat_tree x) from (m ∷ [])) c.deref-in-Star.ensures in
    own ∙ sym (accepts_move-star (kat_tree e) from m) ∙ ap (λ x. accepts x from (m ∷ [])) (sym tree)
