-- The programs of the examples, each below its text.
use Rattle.std.specs.Prelude.{[], ◌∷◌, true, false, codes}
use Rattle.rx_ast.specs.declared.expr.Operator.TheVariants.{Or, Add, Subtract, Multiply, Divide, Remainder}
use Rattle.rx_ast.specs.Syntax.{number, variable, grouped, chain, chosen, no_links, link, key, computed, literal, unkeyed, key_first, at_once, by_tag, braces, number_of, repeated, choice, host, comp, boundary, catcher, provider, enclosed, no_slots, slot, single, state, reducer, use_resource, effect, throw_if, integer, given_children, of_context, of_function, of_component, Program}
use Rattle.rx_ast.specs.Syntax as syntax

-- function Counter({start}) { const [n, setN] = useState(start); return <p>{n}</p>; }
-- function App() { return <div><Counter start={1}/><Counter start={2}/></div>; }
abbrev pub two_counters : Program
two_counters =
    record {
      second = false;
      declarations =
          of_component (record {
            name = codes "Counter";
            memo = false;
            braces = true;
            parameters = (integer (codes "start") ∷ []);
            statements = (state (codes "n") (codes "setN") (variable (codes "start")) ∷ []);
            body = (single (host (codes "p") [] by_tag (slot (enclosed braces (number_of (variable (codes "n")))) no_slots)));
          })
          ∷ of_component (record {
            name = codes "App";
            memo = false;
            braces = false;
            parameters = [];
            statements = [];
            body = (single (host (codes "div") [] by_tag (slot (comp (codes "Counter") (computed (codes "start") (number 1) ∷ []) at_once no_slots) (slot (comp (codes "Counter") (computed (codes "start") (number 2) ∷ []) at_once no_slots) no_slots))));
          })
          ∷ [];
    }

-- function A() { const [n, setN] = useState(0); return <p>{n}</p>; }
-- function B() { return <q/>; }
-- function App() { const [c, setC] = useState(1); return c ? <A/> : <B/>; }
abbrev pub switch : Program
switch =
    record {
      second = false;
      declarations =
          of_component (record {
            name = codes "A";
            memo = false;
            braces = false;
            parameters = [];
            statements = (state (codes "n") (codes "setN") (number 0) ∷ []);
            body = (single (host (codes "p") [] by_tag (slot (enclosed braces (number_of (variable (codes "n")))) no_slots)));
          })
          ∷ of_component (record {
            name = codes "B";
            memo = false;
            braces = false;
            parameters = [];
            statements = [];
            body = (single (host (codes "q") [] at_once no_slots));
          })
          ∷ of_component (record {
            name = codes "App";
            memo = false;
            braces = false;
            parameters = [];
            statements = (state (codes "c") (codes "setC") (number 1) ∷ []);
            body = (single (choice (variable (codes "c")) (comp (codes "A") [] at_once no_slots) (comp (codes "B") [] at_once no_slots)));
          })
          ∷ [];
    }

-- function App() { return <p>{(0 - 2147483648) / (0 - 1)}{7 / 0}{(0 - 7) % 3}{2147483647 + 1}</p>; }
abbrev pub sums : Program
sums =
    record {
      second = false;
      declarations =
          of_component (record {
            name = codes "App";
            memo = false;
            braces = false;
            parameters = [];
            statements = [];
            body = (single (host (codes "p") [] by_tag (slot (enclosed braces (number_of (chain (grouped (chain (number 0) (link Subtract (number 2147483648) no_links))) (link Divide (grouped (chain (number 0) (link Subtract (number 1) no_links))) no_links)))) (slot (enclosed braces (number_of (chain (number 7) (link Divide (number 0) no_links)))) (slot (enclosed braces (number_of (chain (grouped (chain (number 0) (link Subtract (number 7) no_links))) (link Remainder (number 3) no_links)))) (slot (enclosed braces (number_of (chain (number 2147483647) (link Add (number 1) no_links)))) no_slots))))));
          })
          ∷ [];
    }

-- function App() { const [n, setN] = useState(1); return <p a={n} b="x">{n ? n : null}<i/></p>; }
abbrev pub attributes_of_a_host : Program
attributes_of_a_host =
    record {
      second = false;
      declarations =
          of_component (record {
            name = codes "App";
            memo = false;
            braces = false;
            parameters = [];
            statements = (state (codes "n") (codes "setN") (number 1) ∷ []);
            body = (single (host (codes "p") (computed (codes "a") (variable (codes "n")) ∷ literal (codes "b") (codes "x") ∷ []) by_tag (slot (enclosed braces (choice (variable (codes "n")) (number_of (variable (codes "n"))) syntax.null)) (slot (host (codes "i") [] at_once no_slots) no_slots))));
          })
          ∷ [];
    }

-- function App() { const [r, setR] = useState(0); return <ul>{for (i < 4, 4) <li key={(i + r * 3) % 4}>{(i + r * 3) % 4}</li>}</ul>; }
abbrev pub rotating : Program
rotating =
    record {
      second = false;
      declarations =
          of_component (record {
            name = codes "App";
            memo = false;
            braces = false;
            parameters = [];
            statements = (state (codes "r") (codes "setR") (number 0) ∷ []);
            body = (single (host (codes "ul") [] by_tag (slot (enclosed braces (repeated (codes "i") (number 4) 4 (host (codes "li") (key (chain (grouped (chain (variable (codes "i")) (link Add (chain (variable (codes "r")) (link Multiply (number 3) no_links)) no_links))) (link Remainder (number 4) no_links)) ∷ []) by_tag (slot (enclosed braces (number_of (chain (grouped (chain (variable (codes "i")) (link Add (chain (variable (codes "r")) (link Multiply (number 3) no_links)) no_links))) (link Remainder (number 4) no_links)))) no_slots)))) no_slots)));
          })
          ∷ [];
    }

-- function Item({v}) { const [n, setN] = useState(v); return <i>{n}</i>; }
-- function App() { const [a, setA] = useState(1); return <div>{for (i < 2, 2) i || a ? <Item key={5} v={10 + i}/> : null}</div>; }
abbrev pub equal_items : Program
equal_items =
    record {
      second = false;
      declarations =
          of_component (record {
            name = codes "Item";
            memo = false;
            braces = true;
            parameters = (integer (codes "v") ∷ []);
            statements = (state (codes "n") (codes "setN") (variable (codes "v")) ∷ []);
            body = (single (host (codes "i") [] by_tag (slot (enclosed braces (number_of (variable (codes "n")))) no_slots)));
          })
          ∷ of_component (record {
            name = codes "App";
            memo = false;
            braces = false;
            parameters = [];
            statements = (state (codes "a") (codes "setA") (number 1) ∷ []);
            body = (single (host (codes "div") [] by_tag (slot (enclosed braces (repeated (codes "i") (number 2) 2 (choice (chain (variable (codes "i")) (link Or (variable (codes "a")) no_links)) (comp (codes "Item") (key (number 5) ∷ computed (codes "v") (chain (number 10) (link Add (variable (codes "i")) no_links)) ∷ []) at_once no_slots) syntax.null))) no_slots)));
          })
          ∷ [];
    }

-- function app(s, a) { return s * 10 + a; }
-- function App() { const [s, setS] = useState(0); return <p>{s}</p>; }
abbrev pub appending : Program
appending =
    record {
      second = false;
      declarations =
          of_function (record {
            name = codes "app";
            parameters = ((codes "s") ∷ (codes "a") ∷ []);
            lines = [];
            answer = (chain (chain (variable (codes "s")) (link Multiply (number 10) no_links)) (link Add (variable (codes "a")) no_links));
          })
          ∷ of_component (record {
            name = codes "App";
            memo = false;
            braces = false;
            parameters = [];
            statements = (state (codes "s") (codes "setS") (number 0) ∷ []);
            body = (single (host (codes "p") [] by_tag (slot (enclosed braces (number_of (variable (codes "s")))) no_slots)));
          })
          ∷ [];
    }

-- function red(s, a) { return s * 10 + a; }
-- function App() { const [s, d] = useReducer(red, 0); const [t, setT] = useState(0); return <p>{s + t}</p>; }
abbrev pub reducing : Program
reducing =
    record {
      second = false;
      declarations =
          of_function (record {
            name = codes "red";
            parameters = ((codes "s") ∷ (codes "a") ∷ []);
            lines = [];
            answer = (chain (chain (variable (codes "s")) (link Multiply (number 10) no_links)) (link Add (variable (codes "a")) no_links));
          })
          ∷ of_component (record {
            name = codes "App";
            memo = false;
            braces = false;
            parameters = [];
            statements = (reducer (codes "s") (codes "d") (codes "red") (number 0) ∷ state (codes "t") (codes "setT") (number 0) ∷ []);
            body = (single (host (codes "p") [] by_tag (slot (enclosed braces (number_of (chain (variable (codes "s")) (link Add (variable (codes "t")) no_links)))) no_slots)));
          })
          ∷ [];
    }

-- function Kid({v}) { useLayoutEffect("kl", [v]); useEffect("kp", [v]); return <i/>; }
-- function App() { const [v, setV] = useState(0); const [g, setG] = useState(1); useLayoutEffect("al", [v]); useEffect("ap", [v]); return <div><Kid v={v}/>{g ? <Kid v={9}/> : null}</div>; }
abbrev pub effects_of_kids : Program
effects_of_kids =
    record {
      second = false;
      declarations =
          of_component (record {
            name = codes "Kid";
            memo = false;
            braces = true;
            parameters = (integer (codes "v") ∷ []);
            statements = (effect true (codes "kl") ((variable (codes "v")) ∷ []) ∷ effect false (codes "kp") ((variable (codes "v")) ∷ []) ∷ []);
            body = (single (host (codes "i") [] at_once no_slots));
          })
          ∷ of_component (record {
            name = codes "App";
            memo = false;
            braces = false;
            parameters = [];
            statements = (state (codes "v") (codes "setV") (number 0) ∷ state (codes "g") (codes "setG") (number 1) ∷ effect true (codes "al") ((variable (codes "v")) ∷ []) ∷ effect false (codes "ap") ((variable (codes "v")) ∷ []) ∷ []);
            body = (single (host (codes "div") [] by_tag (slot (comp (codes "Kid") (computed (codes "v") (variable (codes "v")) ∷ []) at_once no_slots) (slot (enclosed braces (choice (variable (codes "g")) (comp (codes "Kid") (computed (codes "v") (number 9) ∷ []) at_once no_slots) syntax.null)) no_slots))));
          })
          ∷ [];
    }

-- const Theme = createContext(1); function Leaf() { const t = useContext(Theme); return <b>{t}</b>; }
-- function Mid() { return <Leaf/>; }
-- function App() { const [t, setT] = useState(2); return <div><Theme.Provider value={t}><Mid/></Theme.Provider><Leaf/></div>; }
abbrev pub themes : Program
themes =
    record {
      second = false;
      declarations =
          of_context (record {
            name = codes "Theme";
            negative = false;
            number = 1;
          })
          ∷ of_component (record {
            name = codes "Leaf";
            memo = false;
            braces = false;
            parameters = [];
            statements = (syntax.context (codes "t") (codes "Theme") ∷ []);
            body = (single (host (codes "b") [] by_tag (slot (enclosed braces (number_of (variable (codes "t")))) no_slots)));
          })
          ∷ of_component (record {
            name = codes "Mid";
            memo = false;
            braces = false;
            parameters = [];
            statements = [];
            body = (single (comp (codes "Leaf") [] at_once no_slots));
          })
          ∷ of_component (record {
            name = codes "App";
            memo = false;
            braces = false;
            parameters = [];
            statements = (state (codes "t") (codes "setT") (number 2) ∷ []);
            body = (single (host (codes "div") [] by_tag (slot (provider (codes "Theme") unkeyed (variable (codes "t")) by_tag (slot (comp (codes "Mid") [] at_once no_slots) no_slots)) (slot (comp (codes "Leaf") [] at_once no_slots) no_slots))));
          })
          ∷ [];
    }

-- const C = createContext(1); function Box({children, w}) { return <C.Provider value={w}>{children}{children}</C.Provider>; }
-- function Leaf() { const c = useContext(C); return <b>{c}</b>; }
-- function App() { const [w, setW] = useState(2); return <Box w={w}><Leaf/></Box>; }
abbrev pub placing_twice : Program
placing_twice =
    record {
      second = false;
      declarations =
          of_context (record {
            name = codes "C";
            negative = false;
            number = 1;
          })
          ∷ of_component (record {
            name = codes "Box";
            memo = false;
            braces = true;
            parameters = (given_children ∷ integer (codes "w") ∷ []);
            statements = [];
            body = (single (provider (codes "C") unkeyed (variable (codes "w")) by_tag (slot (enclosed braces syntax.children) (slot (enclosed braces syntax.children) no_slots))));
          })
          ∷ of_component (record {
            name = codes "Leaf";
            memo = false;
            braces = false;
            parameters = [];
            statements = (syntax.context (codes "c") (codes "C") ∷ []);
            body = (single (host (codes "b") [] by_tag (slot (enclosed braces (number_of (variable (codes "c")))) no_slots)));
          })
          ∷ of_component (record {
            name = codes "App";
            memo = false;
            braces = false;
            parameters = [];
            statements = (state (codes "w") (codes "setW") (number 2) ∷ []);
            body = (single (comp (codes "Box") (computed (codes "w") (variable (codes "w")) ∷ []) by_tag (slot (comp (codes "Leaf") [] at_once no_slots) no_slots)));
          })
          ∷ [];
    }

-- function Cell({v}) { return <i>{v}</i>; }
-- function App() { const [v, setV] = useState(0); const [w, setW] = useState(0); useLayoutEffect("v", [v]); return <div>{w}{for (k < 20, 20) <Cell key={k} v={v}/>}</div>; }
abbrev pub cells : Program
cells =
    record {
      second = false;
      declarations =
          of_component (record {
            name = codes "Cell";
            memo = false;
            braces = true;
            parameters = (integer (codes "v") ∷ []);
            statements = [];
            body = (single (host (codes "i") [] by_tag (slot (enclosed braces (number_of (variable (codes "v")))) no_slots)));
          })
          ∷ of_component (record {
            name = codes "App";
            memo = false;
            braces = false;
            parameters = [];
            statements = (state (codes "v") (codes "setV") (number 0) ∷ state (codes "w") (codes "setW") (number 0) ∷ effect true (codes "v") ((variable (codes "v")) ∷ []) ∷ []);
            body = (single (host (codes "div") [] by_tag (slot (enclosed braces (number_of (variable (codes "w")))) (slot (enclosed braces (repeated (codes "k") (number 20) 20 (comp (codes "Cell") (key (variable (codes "k")) ∷ computed (codes "v") (variable (codes "v")) ∷ []) at_once no_slots))) no_slots))));
          })
          ∷ [];
    }

-- function User({p}) { const [n, setN] = useState(p); const u = use("user"); return <b>{u + n}</b>; }
-- function App() { const [p, setP] = useState(1); return <Suspense fallback={<i/>}><User p={p}/></Suspense>; }
abbrev pub users : Program
users =
    record {
      second = false;
      declarations =
          of_component (record {
            name = codes "User";
            memo = false;
            braces = true;
            parameters = (integer (codes "p") ∷ []);
            statements = (state (codes "n") (codes "setN") (variable (codes "p")) ∷ use_resource (codes "u") (codes "user") ∷ []);
            body = (single (host (codes "b") [] by_tag (slot (enclosed braces (number_of (chain (variable (codes "u")) (link Add (variable (codes "n")) no_links)))) no_slots)));
          })
          ∷ of_component (record {
            name = codes "App";
            memo = false;
            braces = false;
            parameters = [];
            statements = (state (codes "p") (codes "setP") (number 1) ∷ []);
            body = (single (boundary unkeyed (host (codes "i") [] at_once no_slots) by_tag (slot (comp (codes "User") (computed (codes "p") (variable (codes "p")) ∷ []) at_once no_slots) no_slots)));
          })
          ∷ [];
    }

-- function User() { const u = use("user"); return <b>{u}</b>; }
-- function App() { const [s, setS] = useState(0); return <div>{s ? <Suspense fallback={<i/>}><User/></Suspense> : null}</div>; }
abbrev pub late_users : Program
late_users =
    record {
      second = false;
      declarations =
          of_component (record {
            name = codes "User";
            memo = false;
            braces = false;
            parameters = [];
            statements = (use_resource (codes "u") (codes "user") ∷ []);
            body = (single (host (codes "b") [] by_tag (slot (enclosed braces (number_of (variable (codes "u")))) no_slots)));
          })
          ∷ of_component (record {
            name = codes "App";
            memo = false;
            braces = false;
            parameters = [];
            statements = (state (codes "s") (codes "setS") (number 0) ∷ []);
            body = (single (host (codes "div") [] by_tag (slot (enclosed braces (choice (variable (codes "s")) (boundary unkeyed (host (codes "i") [] at_once no_slots) by_tag (slot (comp (codes "User") [] at_once no_slots) no_slots)) syntax.null)) no_slots)));
          })
          ∷ [];
    }

-- function W() { const u = use("a"); return <b>{u}</b>; }
-- function F() { const u = use("f"); return <s>{u}</s>; }
-- function App() { return <Suspense fallback={<i/>}><p/><Suspense fallback={<F/>}><W/></Suspense></Suspense>; }
abbrev pub nested_boundaries : Program
nested_boundaries =
    record {
      second = false;
      declarations =
          of_component (record {
            name = codes "W";
            memo = false;
            braces = false;
            parameters = [];
            statements = (use_resource (codes "u") (codes "a") ∷ []);
            body = (single (host (codes "b") [] by_tag (slot (enclosed braces (number_of (variable (codes "u")))) no_slots)));
          })
          ∷ of_component (record {
            name = codes "F";
            memo = false;
            braces = false;
            parameters = [];
            statements = (use_resource (codes "u") (codes "f") ∷ []);
            body = (single (host (codes "s") [] by_tag (slot (enclosed braces (number_of (variable (codes "u")))) no_slots)));
          })
          ∷ of_component (record {
            name = codes "App";
            memo = false;
            braces = false;
            parameters = [];
            statements = [];
            body = (single (boundary unkeyed (host (codes "i") [] at_once no_slots) by_tag (slot (host (codes "p") [] at_once no_slots) (slot (boundary unkeyed (comp (codes "F") [] at_once no_slots) by_tag (slot (comp (codes "W") [] at_once no_slots) no_slots)) no_slots))));
          })
          ∷ [];
    }

-- function app(s, a) { return s * 10 + a; }
-- function Wait() { const u = use("r"); return <b>{u}</b>; }
-- function Box({w}) { const [s, setS] = useState(0); return <p>{s}{w ? <Wait/> : null}</p>; }
-- function App() { const [w, setW] = useState(0); return <Suspense fallback={<i/>}><Box w={w}/></Suspense>; }
abbrev pub boxes : Program
boxes =
    record {
      second = false;
      declarations =
          of_function (record {
            name = codes "app";
            parameters = ((codes "s") ∷ (codes "a") ∷ []);
            lines = [];
            answer = (chain (chain (variable (codes "s")) (link Multiply (number 10) no_links)) (link Add (variable (codes "a")) no_links));
          })
          ∷ of_component (record {
            name = codes "Wait";
            memo = false;
            braces = false;
            parameters = [];
            statements = (use_resource (codes "u") (codes "r") ∷ []);
            body = (single (host (codes "b") [] by_tag (slot (enclosed braces (number_of (variable (codes "u")))) no_slots)));
          })
          ∷ of_component (record {
            name = codes "Box";
            memo = false;
            braces = true;
            parameters = (integer (codes "w") ∷ []);
            statements = (state (codes "s") (codes "setS") (number 0) ∷ []);
            body = (single (host (codes "p") [] by_tag (slot (enclosed braces (number_of (variable (codes "s")))) (slot (enclosed braces (choice (variable (codes "w")) (comp (codes "Wait") [] at_once no_slots) syntax.null)) no_slots))));
          })
          ∷ of_component (record {
            name = codes "App";
            memo = false;
            braces = false;
            parameters = [];
            statements = (state (codes "w") (codes "setW") (number 0) ∷ []);
            body = (single (boundary unkeyed (host (codes "i") [] at_once no_slots) by_tag (slot (comp (codes "Box") (computed (codes "w") (variable (codes "w")) ∷ []) at_once no_slots) no_slots)));
          })
          ∷ [];
    }

-- function Wait() { const u = use("r"); return <b>{u}</b>; }
-- function Box({w}) { useLayoutEffect("bl", [w]); useEffect("bp", [w]); return w ? <Wait/> : null; }
-- function App() { const [w, setW] = useState(0); return <Suspense fallback={<i/>}><Box w={w}/></Suspense>; }
abbrev pub boxes_with_effects : Program
boxes_with_effects =
    record {
      second = false;
      declarations =
          of_component (record {
            name = codes "Wait";
            memo = false;
            braces = false;
            parameters = [];
            statements = (use_resource (codes "u") (codes "r") ∷ []);
            body = (single (host (codes "b") [] by_tag (slot (enclosed braces (number_of (variable (codes "u")))) no_slots)));
          })
          ∷ of_component (record {
            name = codes "Box";
            memo = false;
            braces = true;
            parameters = (integer (codes "w") ∷ []);
            statements = (effect true (codes "bl") ((variable (codes "w")) ∷ []) ∷ effect false (codes "bp") ((variable (codes "w")) ∷ []) ∷ []);
            body = (single (choice (variable (codes "w")) (comp (codes "Wait") [] at_once no_slots) syntax.null));
          })
          ∷ of_component (record {
            name = codes "App";
            memo = false;
            braces = false;
            parameters = [];
            statements = (state (codes "w") (codes "setW") (number 0) ∷ []);
            body = (single (boundary unkeyed (host (codes "i") [] at_once no_slots) by_tag (slot (comp (codes "Box") (computed (codes "w") (variable (codes "w")) ∷ []) at_once no_slots) no_slots)));
          })
          ∷ [];
    }

-- function T({v}) { throwIf(v - 3 ? 0 : 7); const [n, setN] = useState(0); return <b>{v}</b>; }
-- function App() { const [v, setV] = useState(1); const [k, setK] = useState(0); return <div><Catch key={k} fallback={<i/>}><T v={v}/></Catch>{v}</div>; }
abbrev pub throwing : Program
throwing =
    record {
      second = false;
      declarations =
          of_component (record {
            name = codes "T";
            memo = false;
            braces = true;
            parameters = (integer (codes "v") ∷ []);
            statements = (throw_if (chosen (chain (variable (codes "v")) (link Subtract (number 3) no_links)) (number 0) (number 7)) ∷ state (codes "n") (codes "setN") (number 0) ∷ []);
            body = (single (host (codes "b") [] by_tag (slot (enclosed braces (number_of (variable (codes "v")))) no_slots)));
          })
          ∷ of_component (record {
            name = codes "App";
            memo = false;
            braces = false;
            parameters = [];
            statements = (state (codes "v") (codes "setV") (number 1) ∷ state (codes "k") (codes "setK") (number 0) ∷ []);
            body = (single (host (codes "div") [] by_tag (slot (catcher (key_first (variable (codes "k"))) (host (codes "i") [] at_once no_slots) by_tag (slot (comp (codes "T") (computed (codes "v") (variable (codes "v")) ∷ []) at_once no_slots) no_slots)) (slot (enclosed braces (number_of (variable (codes "v")))) no_slots))));
          })
          ∷ [];
    }

-- function A() { const u = use("a"); throwIf(u); return <b/>; }
-- function B() { const u = use("b"); return <b/>; }
-- function App() { const [s, setS] = useState(0); return <div>{s}<Catch fallback={<i/>}><Suspense fallback={<u/>}><Suspense fallback={<q/>}><A/></Suspense><B/></Suspense></Catch></div>; }
abbrev pub late_throwing : Program
late_throwing =
    record {
      second = false;
      declarations =
          of_component (record {
            name = codes "A";
            memo = false;
            braces = false;
            parameters = [];
            statements = (use_resource (codes "u") (codes "a") ∷ throw_if (variable (codes "u")) ∷ []);
            body = (single (host (codes "b") [] at_once no_slots));
          })
          ∷ of_component (record {
            name = codes "B";
            memo = false;
            braces = false;
            parameters = [];
            statements = (use_resource (codes "u") (codes "b") ∷ []);
            body = (single (host (codes "b") [] at_once no_slots));
          })
          ∷ of_component (record {
            name = codes "App";
            memo = false;
            braces = false;
            parameters = [];
            statements = (state (codes "s") (codes "setS") (number 0) ∷ []);
            body = (single (host (codes "div") [] by_tag (slot (enclosed braces (number_of (variable (codes "s")))) (slot (catcher unkeyed (host (codes "i") [] at_once no_slots) by_tag (slot (boundary unkeyed (host (codes "u") [] at_once no_slots) by_tag (slot (boundary unkeyed (host (codes "q") [] at_once no_slots) by_tag (slot (comp (codes "A") [] at_once no_slots) no_slots)) (slot (comp (codes "B") [] at_once no_slots) no_slots))) no_slots)) no_slots))));
          })
          ∷ [];
    }
