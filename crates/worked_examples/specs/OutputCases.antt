-- Outputs: what they show, and when they run.
use Rattle.std.specs.Prelude.{◌≡◌, [], ◌∷◌, Some, codes}
use Rattle.session_model.specs.Transcript.{done}
use Rattle.worked_examples.specs.Files.{lines, file_replayed}

abbrev pub ChangedInput : Type 0
ChangedInput =
    file_replayed
    (lines (codes "input n = 1;" ∷
    codes "text o { input$n }" ∷ []))
    (lines (codes "s recv {\"method\":\"init\",\"data\":{\"n\":1,\".clientdata_output_o_hidden\":false}}" ∷
    codes "s recv {\"method\":\"update\",\"data\":{\"n\":2}}" ∷ []))
    ≡ Some (record {
      output = lines (codes "s send {\"config\":{\"sessionId\":\"s\",\"user\":null,\"workerId\":\"\"}}" ∷
          codes "s send {\"busy\":\"busy\"}" ∷
          codes "s send {\"progress\":{\"message\":{\"id\":\"o\"},\"type\":\"binding\"}}" ∷
          codes "s send {\"recalculating\":{\"name\":\"o\",\"status\":\"recalculating\"}}" ∷
          codes "s send {\"recalculating\":{\"name\":\"o\",\"status\":\"recalculated\"}}" ∷
          codes "s send {\"errors\":{},\"inputMessages\":[],\"values\":{\"o\":\"1\"}}" ∷
          codes "s send {\"busy\":\"idle\"}" ∷
          codes "s send {\"busy\":\"busy\"}" ∷
          codes "s send {\"progress\":{\"message\":{\"id\":\"o\"},\"type\":\"binding\"}}" ∷
          codes "s send {\"recalculating\":{\"name\":\"o\",\"status\":\"recalculating\"}}" ∷
          codes "s send {\"recalculating\":{\"name\":\"o\",\"status\":\"recalculated\"}}" ∷
          codes "s send {\"errors\":{},\"inputMessages\":[],\"values\":{\"o\":\"2\"}}" ∷
          codes "s send {\"busy\":\"idle\"}" ∷
          codes "s over ended" ∷ []);
      end = done;
    })

abbrev pub EqualInput : Type 0
EqualInput =
    file_replayed
    (lines (codes "input n = 1;" ∷
    codes "text o { input$n }" ∷ []))
    (lines (codes "s recv {\"method\":\"init\",\"data\":{\"n\":1,\".clientdata_output_o_hidden\":false}}" ∷
    codes "s recv {\"method\":\"update\",\"data\":{\"n\":1}}" ∷ []))
    ≡ Some (record {
      output = lines (codes "s send {\"config\":{\"sessionId\":\"s\",\"user\":null,\"workerId\":\"\"}}" ∷
          codes "s send {\"busy\":\"busy\"}" ∷
          codes "s send {\"progress\":{\"message\":{\"id\":\"o\"},\"type\":\"binding\"}}" ∷
          codes "s send {\"recalculating\":{\"name\":\"o\",\"status\":\"recalculating\"}}" ∷
          codes "s send {\"recalculating\":{\"name\":\"o\",\"status\":\"recalculated\"}}" ∷
          codes "s send {\"errors\":{},\"inputMessages\":[],\"values\":{\"o\":\"1\"}}" ∷
          codes "s send {\"busy\":\"idle\"}" ∷
          codes "s over ended" ∷ []);
      end = done;
    })

abbrev pub EmptyApp : Type 0
EmptyApp =
    file_replayed
    ([])
    (lines (codes "s recv {\"method\":\"init\",\"data\":{}}" ∷ []))
    ≡ Some (record {
      output = lines (codes "s send {\"config\":{\"sessionId\":\"s\",\"user\":null,\"workerId\":\"\"}}" ∷
          codes "s send {\"busy\":\"busy\"}" ∷
          codes "s send {\"errors\":{},\"inputMessages\":[],\"values\":{}}" ∷
          codes "s send {\"busy\":\"idle\"}" ∷
          codes "s over ended" ∷ []);
      end = done;
    })

abbrev pub TakenBranch : Type 0
TakenBranch =
    file_replayed
    (lines (codes "input a = TRUE;" ∷
    codes "input b = 1;" ∷
    codes "input d = 2;" ∷
    codes "text o { if (input$a) input$b else input$d }" ∷ []))
    (lines (codes "s recv {\"method\":\"init\",\"data\":{\".clientdata_output_o_hidden\":false}}" ∷
    codes "s recv {\"method\":\"update\",\"data\":{\"a\":false}}" ∷
    codes "s recv {\"method\":\"update\",\"data\":{\"b\":9}}" ∷
    codes "s recv {\"method\":\"update\",\"data\":{\"d\":5}}" ∷ []))
    ≡ Some (record {
      output = lines (codes "s send {\"config\":{\"sessionId\":\"s\",\"user\":null,\"workerId\":\"\"}}" ∷
          codes "s send {\"busy\":\"busy\"}" ∷
          codes "s send {\"progress\":{\"message\":{\"id\":\"o\"},\"type\":\"binding\"}}" ∷
          codes "s send {\"recalculating\":{\"name\":\"o\",\"status\":\"recalculating\"}}" ∷
          codes "s send {\"recalculating\":{\"name\":\"o\",\"status\":\"recalculated\"}}" ∷
          codes "s send {\"errors\":{},\"inputMessages\":[],\"values\":{\"o\":\"1\"}}" ∷
          codes "s send {\"busy\":\"idle\"}" ∷
          codes "s send {\"busy\":\"busy\"}" ∷
          codes "s send {\"progress\":{\"message\":{\"id\":\"o\"},\"type\":\"binding\"}}" ∷
          codes "s send {\"recalculating\":{\"name\":\"o\",\"status\":\"recalculating\"}}" ∷
          codes "s send {\"recalculating\":{\"name\":\"o\",\"status\":\"recalculated\"}}" ∷
          codes "s send {\"errors\":{},\"inputMessages\":[],\"values\":{\"o\":\"2\"}}" ∷
          codes "s send {\"busy\":\"idle\"}" ∷
          codes "s send {\"busy\":\"busy\"}" ∷
          codes "s send {\"progress\":{\"message\":{\"id\":\"o\"},\"type\":\"binding\"}}" ∷
          codes "s send {\"recalculating\":{\"name\":\"o\",\"status\":\"recalculating\"}}" ∷
          codes "s send {\"recalculating\":{\"name\":\"o\",\"status\":\"recalculated\"}}" ∷
          codes "s send {\"errors\":{},\"inputMessages\":[],\"values\":{\"o\":\"5\"}}" ∷
          codes "s send {\"busy\":\"idle\"}" ∷
          codes "s over ended" ∷ []);
      end = done;
    })

abbrev pub SharedExpression : Type 0
SharedExpression =
    file_replayed
    (lines (codes "input a = 1;" ∷
    codes "reactive e { input$a + 1 }" ∷
    codes "text p { e() }" ∷
    codes "text q { e() * 10 }" ∷ []))
    (lines (codes "s recv {\"method\":\"init\",\"data\":{\".clientdata_output_p_hidden\":false,\".clientdata_output_q_hidden\":false}}" ∷
    codes "s recv {\"method\":\"update\",\"data\":{\"a\":2}}" ∷ []))
    ≡ Some (record {
      output = lines (codes "s send {\"config\":{\"sessionId\":\"s\",\"user\":null,\"workerId\":\"\"}}" ∷
          codes "s send {\"busy\":\"busy\"}" ∷
          codes "s send {\"progress\":{\"message\":{\"id\":\"p\"},\"type\":\"binding\"}}" ∷
          codes "s send {\"recalculating\":{\"name\":\"p\",\"status\":\"recalculating\"}}" ∷
          codes "s send {\"recalculating\":{\"name\":\"p\",\"status\":\"recalculated\"}}" ∷
          codes "s send {\"progress\":{\"message\":{\"id\":\"q\"},\"type\":\"binding\"}}" ∷
          codes "s send {\"recalculating\":{\"name\":\"q\",\"status\":\"recalculating\"}}" ∷
          codes "s send {\"recalculating\":{\"name\":\"q\",\"status\":\"recalculated\"}}" ∷
          codes "s send {\"errors\":{},\"inputMessages\":[],\"values\":{\"p\":\"2\",\"q\":\"20\"}}" ∷
          codes "s send {\"busy\":\"idle\"}" ∷
          codes "s send {\"busy\":\"busy\"}" ∷
          codes "s send {\"progress\":{\"message\":{\"id\":\"p\"},\"type\":\"binding\"}}" ∷
          codes "s send {\"recalculating\":{\"name\":\"p\",\"status\":\"recalculating\"}}" ∷
          codes "s send {\"recalculating\":{\"name\":\"p\",\"status\":\"recalculated\"}}" ∷
          codes "s send {\"progress\":{\"message\":{\"id\":\"q\"},\"type\":\"binding\"}}" ∷
          codes "s send {\"recalculating\":{\"name\":\"q\",\"status\":\"recalculating\"}}" ∷
          codes "s send {\"recalculating\":{\"name\":\"q\",\"status\":\"recalculated\"}}" ∷
          codes "s send {\"errors\":{},\"inputMessages\":[],\"values\":{\"p\":\"3\",\"q\":\"30\"}}" ∷
          codes "s send {\"busy\":\"idle\"}" ∷
          codes "s over ended" ∷ []);
      end = done;
    })

abbrev pub IsolatedRead : Type 0
IsolatedRead =
    file_replayed
    (lines (codes "input a = 1;" ∷
    codes "input b = 10;" ∷
    codes "text o { input$a + isolate(input$b) }" ∷
    codes "text p { input$b }" ∷ []))
    (lines (codes "s recv {\"method\":\"init\",\"data\":{\".clientdata_output_o_hidden\":false,\".clientdata_output_p_hidden\":false}}" ∷
    codes "s recv {\"method\":\"update\",\"data\":{\"b\":20}}" ∷
    codes "s recv {\"method\":\"update\",\"data\":{\"a\":2}}" ∷ []))
    ≡ Some (record {
      output = lines (codes "s send {\"config\":{\"sessionId\":\"s\",\"user\":null,\"workerId\":\"\"}}" ∷
          codes "s send {\"busy\":\"busy\"}" ∷
          codes "s send {\"progress\":{\"message\":{\"id\":\"o\"},\"type\":\"binding\"}}" ∷
          codes "s send {\"recalculating\":{\"name\":\"o\",\"status\":\"recalculating\"}}" ∷
          codes "s send {\"recalculating\":{\"name\":\"o\",\"status\":\"recalculated\"}}" ∷
          codes "s send {\"progress\":{\"message\":{\"id\":\"p\"},\"type\":\"binding\"}}" ∷
          codes "s send {\"recalculating\":{\"name\":\"p\",\"status\":\"recalculating\"}}" ∷
          codes "s send {\"recalculating\":{\"name\":\"p\",\"status\":\"recalculated\"}}" ∷
          codes "s send {\"errors\":{},\"inputMessages\":[],\"values\":{\"o\":\"11\",\"p\":\"10\"}}" ∷
          codes "s send {\"busy\":\"idle\"}" ∷
          codes "s send {\"busy\":\"busy\"}" ∷
          codes "s send {\"progress\":{\"message\":{\"id\":\"p\"},\"type\":\"binding\"}}" ∷
          codes "s send {\"recalculating\":{\"name\":\"p\",\"status\":\"recalculating\"}}" ∷
          codes "s send {\"recalculating\":{\"name\":\"p\",\"status\":\"recalculated\"}}" ∷
          codes "s send {\"errors\":{},\"inputMessages\":[],\"values\":{\"p\":\"20\"}}" ∷
          codes "s send {\"busy\":\"idle\"}" ∷
          codes "s send {\"busy\":\"busy\"}" ∷
          codes "s send {\"progress\":{\"message\":{\"id\":\"o\"},\"type\":\"binding\"}}" ∷
          codes "s send {\"recalculating\":{\"name\":\"o\",\"status\":\"recalculating\"}}" ∷
          codes "s send {\"recalculating\":{\"name\":\"o\",\"status\":\"recalculated\"}}" ∷
          codes "s send {\"errors\":{},\"inputMessages\":[],\"values\":{\"o\":\"22\"}}" ∷
          codes "s send {\"busy\":\"idle\"}" ∷
          codes "s over ended" ∷ []);
      end = done;
    })

abbrev pub RequiredValues : Type 0
RequiredValues =
    file_replayed
    (lines (codes "input n = 0;" ∷
    codes "input t = \"\";" ∷
    codes "input u = NULL;" ∷
    codes "input go = NULL;" ∷
    codes "text o1 { req(input$n) }" ∷
    codes "text o2 { req(input$t) }" ∷
    codes "text o3 { req(input$u) }" ∷
    codes "text o4 { req(input$go) }" ∷
    codes "text o5 { req(input$t, cancelOutput) }" ∷ []))
    (lines (codes "s recv {\"method\":\"init\",\"data\":{\"go:shiny.action\":0,\".clientdata_output_o1_hidden\":false,\".clientdata_output_o2_hidden\":false,\".clientdata_output_o3_hidden\":false,\".clientdata_output_o4_hidden\":false,\".clientdata_output_o5_hidden\":false}}" ∷
    codes "s recv {\"method\":\"update\",\"data\":{\"t\":\"x\"}}" ∷
    codes "s recv {\"method\":\"update\",\"data\":{\"t\":\"\"}}" ∷ []))
    ≡ Some (record {
      output = lines (codes "s send {\"config\":{\"sessionId\":\"s\",\"user\":null,\"workerId\":\"\"}}" ∷
          codes "s send {\"busy\":\"busy\"}" ∷
          codes "s send {\"progress\":{\"message\":{\"id\":\"o1\"},\"type\":\"binding\"}}" ∷
          codes "s send {\"recalculating\":{\"name\":\"o1\",\"status\":\"recalculating\"}}" ∷
          codes "s send {\"recalculating\":{\"name\":\"o1\",\"status\":\"recalculated\"}}" ∷
          codes "s send {\"progress\":{\"message\":{\"id\":\"o2\"},\"type\":\"binding\"}}" ∷
          codes "s send {\"recalculating\":{\"name\":\"o2\",\"status\":\"recalculating\"}}" ∷
          codes "s send {\"recalculating\":{\"name\":\"o2\",\"status\":\"recalculated\"}}" ∷
          codes "s send {\"progress\":{\"message\":{\"id\":\"o3\"},\"type\":\"binding\"}}" ∷
          codes "s send {\"recalculating\":{\"name\":\"o3\",\"status\":\"recalculating\"}}" ∷
          codes "s send {\"recalculating\":{\"name\":\"o3\",\"status\":\"recalculated\"}}" ∷
          codes "s send {\"progress\":{\"message\":{\"id\":\"o4\"},\"type\":\"binding\"}}" ∷
          codes "s send {\"recalculating\":{\"name\":\"o4\",\"status\":\"recalculating\"}}" ∷
          codes "s send {\"recalculating\":{\"name\":\"o4\",\"status\":\"recalculated\"}}" ∷
          codes "s send {\"progress\":{\"message\":{\"id\":\"o5\"},\"type\":\"binding\"}}" ∷
          codes "s send {\"recalculating\":{\"name\":\"o5\",\"status\":\"recalculating\"}}" ∷
          codes "s send {\"recalculating\":{\"name\":\"o5\",\"status\":\"recalculated\"}}" ∷
          codes "s send {\"errors\":{\"o2\":{\"message\":\"\",\"type\":[\"shiny.silent.error\"]},\"o3\":{\"message\":\"\",\"type\":[\"shiny.silent.error\"]},\"o4\":{\"message\":\"\",\"type\":[\"shiny.silent.error\"]}},\"inputMessages\":[],\"values\":{\"o1\":\"0\"}}" ∷
          codes "s send {\"busy\":\"idle\"}" ∷
          codes "s send {\"busy\":\"busy\"}" ∷
          codes "s send {\"progress\":{\"message\":{\"id\":\"o2\"},\"type\":\"binding\"}}" ∷
          codes "s send {\"recalculating\":{\"name\":\"o2\",\"status\":\"recalculating\"}}" ∷
          codes "s send {\"recalculating\":{\"name\":\"o2\",\"status\":\"recalculated\"}}" ∷
          codes "s send {\"progress\":{\"message\":{\"id\":\"o5\"},\"type\":\"binding\"}}" ∷
          codes "s send {\"recalculating\":{\"name\":\"o5\",\"status\":\"recalculating\"}}" ∷
          codes "s send {\"recalculating\":{\"name\":\"o5\",\"status\":\"recalculated\"}}" ∷
          codes "s send {\"errors\":{},\"inputMessages\":[],\"values\":{\"o2\":\"x\",\"o5\":\"x\"}}" ∷
          codes "s send {\"busy\":\"idle\"}" ∷
          codes "s send {\"busy\":\"busy\"}" ∷
          codes "s send {\"progress\":{\"message\":{\"id\":\"o2\"},\"type\":\"binding\"}}" ∷
          codes "s send {\"recalculating\":{\"name\":\"o2\",\"status\":\"recalculating\"}}" ∷
          codes "s send {\"recalculating\":{\"name\":\"o2\",\"status\":\"recalculated\"}}" ∷
          codes "s send {\"progress\":{\"message\":{\"id\":\"o5\"},\"type\":\"binding\"}}" ∷
          codes "s send {\"recalculating\":{\"name\":\"o5\",\"status\":\"recalculating\"}}" ∷
          codes "s send {\"recalculating\":{\"name\":\"o5\",\"status\":\"recalculated\"}}" ∷
          codes "s send {\"errors\":{\"o2\":{\"message\":\"\",\"type\":[\"shiny.silent.error\"]}},\"inputMessages\":[],\"values\":{}}" ∷
          codes "s send {\"busy\":\"idle\"}" ∷
          codes "s over ended" ∷ []);
      end = done;
    })

abbrev pub FailuresAreKept : Type 0
FailuresAreKept =
    file_replayed
    (lines (codes "input d = 0;" ∷
    codes "reactive a { 10 %/% input$d }" ∷
    codes "reactive b { a() + 1 }" ∷
    codes "text p { b() }" ∷
    codes "text q { a() }" ∷ []))
    (lines (codes "s recv {\"method\":\"init\",\"data\":{\".clientdata_output_p_hidden\":false,\".clientdata_output_q_hidden\":false}}" ∷
    codes "s recv {\"method\":\"update\",\"data\":{\"d\":5}}" ∷ []))
    ≡ Some (record {
      output = lines (codes "s send {\"config\":{\"sessionId\":\"s\",\"user\":null,\"workerId\":\"\"}}" ∷
          codes "s send {\"busy\":\"busy\"}" ∷
          codes "s send {\"progress\":{\"message\":{\"id\":\"p\"},\"type\":\"binding\"}}" ∷
          codes "s send {\"recalculating\":{\"name\":\"p\",\"status\":\"recalculating\"}}" ∷
          codes "s send {\"recalculating\":{\"name\":\"p\",\"status\":\"recalculated\"}}" ∷
          codes "s send {\"progress\":{\"message\":{\"id\":\"q\"},\"type\":\"binding\"}}" ∷
          codes "s send {\"recalculating\":{\"name\":\"q\",\"status\":\"recalculating\"}}" ∷
          codes "s send {\"recalculating\":{\"name\":\"q\",\"status\":\"recalculated\"}}" ∷
          codes "s send {\"errors\":{\"p\":{\"message\":\"division by zero\"},\"q\":{\"message\":\"division by zero\"}},\"inputMessages\":[],\"values\":{}}" ∷
          codes "s send {\"busy\":\"idle\"}" ∷
          codes "s send {\"busy\":\"busy\"}" ∷
          codes "s send {\"progress\":{\"message\":{\"id\":\"p\"},\"type\":\"binding\"}}" ∷
          codes "s send {\"recalculating\":{\"name\":\"p\",\"status\":\"recalculating\"}}" ∷
          codes "s send {\"recalculating\":{\"name\":\"p\",\"status\":\"recalculated\"}}" ∷
          codes "s send {\"progress\":{\"message\":{\"id\":\"q\"},\"type\":\"binding\"}}" ∷
          codes "s send {\"recalculating\":{\"name\":\"q\",\"status\":\"recalculating\"}}" ∷
          codes "s send {\"recalculating\":{\"name\":\"q\",\"status\":\"recalculated\"}}" ∷
          codes "s send {\"errors\":{},\"inputMessages\":[],\"values\":{\"p\":\"3\",\"q\":\"2\"}}" ∷
          codes "s send {\"busy\":\"idle\"}" ∷
          codes "s over ended" ∷ []);
      end = done;
    })

abbrev pub HiddenOutput : Type 0
HiddenOutput =
    file_replayed
    (lines (codes "input a = 1;" ∷
    codes "text o { input$a }" ∷ []))
    (lines (codes "s recv {\"method\":\"init\",\"data\":{\".clientdata_output_o_hidden\":false}}" ∷
    codes "s recv {\"method\":\"update\",\"data\":{\".clientdata_output_o_hidden\":true}}" ∷
    codes "s recv {\"method\":\"update\",\"data\":{\"a\":2}}" ∷
    codes "s recv {\"method\":\"update\",\"data\":{\"a\":3}}" ∷
    codes "s recv {\"method\":\"update\",\"data\":{\"a\":4}}" ∷
    codes "s recv {\"method\":\"update\",\"data\":{\".clientdata_output_o_hidden\":false}}" ∷
    codes "s recv {\"method\":\"update\",\"data\":{\".clientdata_output_o_hidden\":true}}" ∷
    codes "s recv {\"method\":\"update\",\"data\":{\".clientdata_output_o_hidden\":false}}" ∷ []))
    ≡ Some (record {
      output = lines (codes "s send {\"config\":{\"sessionId\":\"s\",\"user\":null,\"workerId\":\"\"}}" ∷
          codes "s send {\"busy\":\"busy\"}" ∷
          codes "s send {\"progress\":{\"message\":{\"id\":\"o\"},\"type\":\"binding\"}}" ∷
          codes "s send {\"recalculating\":{\"name\":\"o\",\"status\":\"recalculating\"}}" ∷
          codes "s send {\"recalculating\":{\"name\":\"o\",\"status\":\"recalculated\"}}" ∷
          codes "s send {\"errors\":{},\"inputMessages\":[],\"values\":{\"o\":\"1\"}}" ∷
          codes "s send {\"busy\":\"idle\"}" ∷
          codes "s send {\"busy\":\"busy\"}" ∷
          codes "s send {\"progress\":{\"message\":{\"id\":\"o\"},\"type\":\"binding\"}}" ∷
          codes "s send {\"recalculating\":{\"name\":\"o\",\"status\":\"recalculating\"}}" ∷
          codes "s send {\"recalculating\":{\"name\":\"o\",\"status\":\"recalculated\"}}" ∷
          codes "s send {\"errors\":{},\"inputMessages\":[],\"values\":{\"o\":\"4\"}}" ∷
          codes "s send {\"busy\":\"idle\"}" ∷
          codes "s over ended" ∷ []);
      end = done;
    })

abbrev pub OutputThatRunsWhileHidden : Type 0
OutputThatRunsWhileHidden =
    file_replayed
    (lines (codes "input a = 1;" ∷
    codes "text o whileHidden { input$a }" ∷ []))
    (lines (codes "s recv {\"method\":\"init\",\"data\":{\".clientdata_output_o_hidden\":true}}" ∷ []))
    ≡ Some (record {
      output = lines (codes "s send {\"config\":{\"sessionId\":\"s\",\"user\":null,\"workerId\":\"\"}}" ∷
          codes "s send {\"busy\":\"busy\"}" ∷
          codes "s send {\"progress\":{\"message\":{\"id\":\"o\"},\"type\":\"binding\"}}" ∷
          codes "s send {\"recalculating\":{\"name\":\"o\",\"status\":\"recalculating\"}}" ∷
          codes "s send {\"recalculating\":{\"name\":\"o\",\"status\":\"recalculated\"}}" ∷
          codes "s send {\"errors\":{},\"inputMessages\":[],\"values\":{\"o\":\"1\"}}" ∷
          codes "s send {\"busy\":\"idle\"}" ∷
          codes "s over ended" ∷ []);
      end = done;
    })

abbrev pub EventThatIsNullAtFirst : Type 0
EventThatIsNullAtFirst =
    file_replayed
    (lines (codes "input go = NULL;" ∷
    codes "input b = 5;" ∷
    codes "event e ignoreInit (input$go) { input$go + input$b }" ∷
    codes "text o { e() }" ∷ []))
    (lines (codes "s recv {\"method\":\"init\",\"data\":{\".clientdata_output_o_hidden\":false}}" ∷
    codes "s recv {\"method\":\"update\",\"data\":{\"b\":7}}" ∷
    codes "s recv {\"method\":\"update\",\"data\":{\"go\":1}}" ∷
    codes "s recv {\"method\":\"update\",\"data\":{\"b\":9}}" ∷
    codes "s recv {\"method\":\"update\",\"data\":{\"go\":null}}" ∷
    codes "s recv {\"method\":\"update\",\"data\":{\"go\":2}}" ∷ []))
    ≡ Some (record {
      output = lines (codes "s send {\"config\":{\"sessionId\":\"s\",\"user\":null,\"workerId\":\"\"}}" ∷
          codes "s send {\"busy\":\"busy\"}" ∷
          codes "s send {\"progress\":{\"message\":{\"id\":\"o\"},\"type\":\"binding\"}}" ∷
          codes "s send {\"recalculating\":{\"name\":\"o\",\"status\":\"recalculating\"}}" ∷
          codes "s send {\"recalculating\":{\"name\":\"o\",\"status\":\"recalculated\"}}" ∷
          codes "s send {\"errors\":{\"o\":{\"message\":\"\",\"type\":[\"shiny.silent.error\"]}},\"inputMessages\":[],\"values\":{}}" ∷
          codes "s send {\"busy\":\"idle\"}" ∷
          codes "s send {\"busy\":\"busy\"}" ∷
          codes "s send {\"progress\":{\"message\":{\"id\":\"o\"},\"type\":\"binding\"}}" ∷
          codes "s send {\"recalculating\":{\"name\":\"o\",\"status\":\"recalculating\"}}" ∷
          codes "s send {\"recalculating\":{\"name\":\"o\",\"status\":\"recalculated\"}}" ∷
          codes "s send {\"errors\":{},\"inputMessages\":[],\"values\":{\"o\":\"8\"}}" ∷
          codes "s send {\"busy\":\"idle\"}" ∷
          codes "s send {\"busy\":\"busy\"}" ∷
          codes "s send {\"progress\":{\"message\":{\"id\":\"o\"},\"type\":\"binding\"}}" ∷
          codes "s send {\"recalculating\":{\"name\":\"o\",\"status\":\"recalculating\"}}" ∷
          codes "s send {\"recalculating\":{\"name\":\"o\",\"status\":\"recalculated\"}}" ∷
          codes "s send {\"errors\":{\"o\":{\"message\":\"\",\"type\":[\"shiny.silent.error\"]}},\"inputMessages\":[],\"values\":{}}" ∷
          codes "s send {\"busy\":\"idle\"}" ∷
          codes "s send {\"busy\":\"busy\"}" ∷
          codes "s send {\"progress\":{\"message\":{\"id\":\"o\"},\"type\":\"binding\"}}" ∷
          codes "s send {\"recalculating\":{\"name\":\"o\",\"status\":\"recalculating\"}}" ∷
          codes "s send {\"recalculating\":{\"name\":\"o\",\"status\":\"recalculated\"}}" ∷
          codes "s send {\"errors\":{},\"inputMessages\":[],\"values\":{\"o\":\"11\"}}" ∷
          codes "s send {\"busy\":\"idle\"}" ∷
          codes "s over ended" ∷ []);
      end = done;
    })

abbrev pub CancelAfterAValue : Type 0
CancelAfterAValue =
    file_replayed
    (lines (codes "input a = \"x\";" ∷
    codes "value v = \"x\";" ∷
    codes "text o { paste0(input$a, req(v(), cancelOutput)) }" ∷
    codes "observe w priority -1 { set v = input$a; }" ∷ []))
    (lines (codes "s recv {\"method\":\"init\",\"data\":{\".clientdata_output_o_hidden\":false}}" ∷
    codes "s recv {\"method\":\"update\",\"data\":{\"a\":\"\"}}" ∷
    codes "s recv {\"method\":\"update\",\"data\":{\"a\":\"y\"}}" ∷ []))
    ≡ Some (record {
      output = lines (codes "s send {\"config\":{\"sessionId\":\"s\",\"user\":null,\"workerId\":\"\"}}" ∷
          codes "s send {\"busy\":\"busy\"}" ∷
          codes "s send {\"progress\":{\"message\":{\"id\":\"o\"},\"type\":\"binding\"}}" ∷
          codes "s send {\"recalculating\":{\"name\":\"o\",\"status\":\"recalculating\"}}" ∷
          codes "s send {\"recalculating\":{\"name\":\"o\",\"status\":\"recalculated\"}}" ∷
          codes "s send {\"errors\":{},\"inputMessages\":[],\"values\":{\"o\":\"xx\"}}" ∷
          codes "s send {\"busy\":\"idle\"}" ∷
          codes "s send {\"busy\":\"busy\"}" ∷
          codes "s send {\"progress\":{\"message\":{\"id\":\"o\"},\"type\":\"binding\"}}" ∷
          codes "s send {\"recalculating\":{\"name\":\"o\",\"status\":\"recalculating\"}}" ∷
          codes "s send {\"recalculating\":{\"name\":\"o\",\"status\":\"recalculated\"}}" ∷
          codes "s send {\"progress\":{\"message\":{\"id\":\"o\"},\"type\":\"binding\"}}" ∷
          codes "s send {\"recalculating\":{\"name\":\"o\",\"status\":\"recalculating\"}}" ∷
          codes "s send {\"recalculating\":{\"name\":\"o\",\"status\":\"recalculated\"}}" ∷
          codes "s send {\"errors\":{},\"inputMessages\":[],\"values\":{\"o\":\"x\"}}" ∷
          codes "s send {\"busy\":\"idle\"}" ∷
          codes "s send {\"busy\":\"busy\"}" ∷
          codes "s send {\"progress\":{\"message\":{\"id\":\"o\"},\"type\":\"binding\"}}" ∷
          codes "s send {\"recalculating\":{\"name\":\"o\",\"status\":\"recalculating\"}}" ∷
          codes "s send {\"recalculating\":{\"name\":\"o\",\"status\":\"recalculated\"}}" ∷
          codes "s send {\"progress\":{\"message\":{\"id\":\"o\"},\"type\":\"binding\"}}" ∷
          codes "s send {\"recalculating\":{\"name\":\"o\",\"status\":\"recalculating\"}}" ∷
          codes "s send {\"recalculating\":{\"name\":\"o\",\"status\":\"recalculated\"}}" ∷
          codes "s send {\"errors\":{},\"inputMessages\":[],\"values\":{\"o\":\"yy\"}}" ∷
          codes "s send {\"busy\":\"idle\"}" ∷
          codes "s over ended" ∷ []);
      end = done;
    })
