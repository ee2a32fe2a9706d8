-- The draft of sections is that of their parameters, which change no nodes.
use Rattle.std.proofs.Common.{◌≡◌, List, [], ◌∷◌, ◌++◌, fold, refl, sym, ◌∙◌}
use Rattle.dac_shapes.specs.laws.Common.{Param, Distributed, Section, Kernel, Written, put, put_all, put_section, params_in}
use Rattle.std.specs.List.{AllByRecursion as Each}
use Rattle.std.proofs.lemmas.List.Sums.{fold-append}

pub each_append : {A : Type 0} (P : A → Type 0) (xs ys : List A) → Each P xs → Each P ys → Each P (xs ++ ys)
each_append P [] ys a b = b
each_append P (x ∷ xs) ys a b = (a.0, each_append P xs ys a.1 b)

pub put_params : (w : Written) (sections : List Section) → fold put_section w sections ≡ put_all w (params_in sections)
put_params w [] = refl
put_params w (Kernel params ∷ sections) = put_params (put_all w params) sections ∙ sym (fold-append put w params (params_in sections))
put_params w (Section.Other ∷ sections) = put_params w sections

pub nodes_stay : (w : Written) (params : List Param) → (put_all w params).nodes ≡ w.nodes
nodes_stay w [] = refl
nodes_stay w (param ∷ params) = nodes_stay (put w param) params ∙ one param
  where
    one : (p : Param) → (put w p).nodes ≡ w.nodes
    one (Distributed apps) = refl
    one _ = refl

-- each parameter of a section has this property
abbrev pub ParamsHave : (Param → Type 0) → Section → Type 0
ParamsHave P (Kernel params) = Each P params
ParamsHave P Section.Other = Unit {0}

pub params_have : (P : Param → Type 0) (sections : List Section) → Each (ParamsHave P) sections → Each P (params_in sections)
params_have P [] h = tt
params_have P (Kernel params ∷ sections) h = each_append P params (params_in sections) h.0 (params_have P sections h.1)
params_have P (Section.Other ∷ sections) h = params_have P sections h.1
